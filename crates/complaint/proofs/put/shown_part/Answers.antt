use Rattle.std.proofs.Common.{arith}
use Rattle.std.proofs.lemmas.Grind.{common_steps}
use Rattle.complaint.proofs.Shows.{none_shown, part_shown}
use Rattle.complaint.proofs.put.shown_part.Goals as goal

pub returns-then-end-from : goal.returns-then-end-from
returns-then-end-from c = none_shown _ _ (grind (arith, common_steps)) c.if-end-from.true

pub returns : goal.returns
returns c = part_shown _ _ (grind (arith, common_steps)) c.if-end-from.false (grind (arith, common_steps))
