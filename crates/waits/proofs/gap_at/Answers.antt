-- The times of both records stand in the store.
use borrow.Author.Rules.{sfits_of}
use mir.Facts.{to_z-of_z}
use Rattle.waits.proofs.Gaps.{gap_first, gap_stored}
use Rattle.waits.proofs.gap_at.Goals as goal

pub returns-then-at-n : goal.returns-then-at-n
returns-then-at-n c = λ few inside. gap_first _ _ _ _ inside c.if-at-n.true

pub returns : goal.returns
returns c = λ few inside.
    gap_stored _ _ _ _ inside c.if-at-n.false c.time_at.ensures c.time_at-2.ensures
    (rw (to_z-of_z (sfits_of c.time_at.type_inv), to_z-of_z (sfits_of c.time_at-2.type_inv)) at (c.gap_of.ensures few))
