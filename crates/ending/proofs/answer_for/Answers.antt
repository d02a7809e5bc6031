use mathlib.Core.Path.{sym, ◌∙◌}
use Rattle.ending.specs.Ending.{answer_for}
use Rattle.ending.proofs.Copying.{unwritten}
use Rattle.ending.proofs.answer_for.Goals as goal

pub returns-in-Ok : goal.returns-in-Ok
unfolding answer_for
returns-in-Ok c = rw c.in-Ok.is c.accepted.ensures

pub returns-in-Err-NoRoom : goal.returns-in-Err-NoRoom
returns-in-Err-NoRoom c = rw c.in-Err-NoRoom.is (c.refused_nowhere.ensures ∙ sym (unwritten c.args.counts c.in-Err-NoRoom.field-0))
