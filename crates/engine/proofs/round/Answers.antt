use native.Mathlib.Omega.{arith}
use borrow.Author.Tests.{eq-eqb, ne_eqb}
use mathlib.Core.Path.{◌∙◌}
use mir.Facts.{to_z-of_z}
use borrow.Author.Rules.{sfits_of}
use Rattle.paper.specs.Clock.{limit}
use Rattle.engine.specs.Inner.{Turned}
use Rattle.engine.proofs.Tests.{passed}
use Rattle.engine.proofs.Turning.{turn_over, turned_same, turned_moved}
use Rattle.engine.proofs.round.Goals as goal

pub returns-then-time-gt-LIMIT : goal.returns-then-time-gt-LIMIT
unfolding Turned
returns-then-time-gt-LIMIT c = turn_over _ _ c.loop-i.invariant.1 _ c.next_at-time.ensures c.loop-i-test.true (passed limit _ (rw (to_z-of_z (sfits_of c.next_at-time.type_inv)) at c.if-time-gt-LIMIT.true))

pub returns-then-moved-eq0 : goal.returns-then-moved-eq0
returns-then-moved-eq0 c = let at = c.loop-i in
    turned_same _ _ (omega arith) (at.auto.to ∙ c.requires.sized.spares) (rw (eq-eqb at.moved 0 c.if-moved-eq0.true) at at.invariant.1)

pub returns-else-moved-eq0 : goal.returns-else-moved-eq0
returns-else-moved-eq0 c = let at = c.loop-i in
    turned_moved _ _ (omega arith) (at.auto.to ∙ c.requires.sized.spares) (rw (ne_eqb at.moved 0 c.if-moved-eq0.false) at at.invariant.1)
