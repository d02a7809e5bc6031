use native.Mathlib.Omega.{arith}
use borrow.Author.Rules.{sfits_of}
use mir.Facts.{to_z-of_z}
use Rattle.waits.specs.Tables.{originals_of}
use Rattle.waits.proofs.Filling.{fill_next, fill_all, of_entry}
use Rattle.waits.proofs.originals_into.Goals as goal

pub loop-i-preserved : goal.loop-i-preserved
loop-i-preserved c = rw (to_z-of_z (sfits_of c.time_at.type_inv))
    (fill_next _ _ c.loop-i.invariant _ c.loop-i-test.true
    (of_entry (λ e. e.body.time) _ (omega arith) c.time_at.ensures))

pub returns : goal.returns
unfolding originals_of
returns c = fill_all _ _ c.loop-i.invariant _ c.loop-i-test.false
