-- By whether any are lent.
use borrow.Author.Tests.{eq-eqb, ne_eqb}
use Rattle.engine.specs.Promise.{gaps_for}
use Rattle.engine.proofs.gaps_for.Goals as goal

pub returns-then-lent-eq0 : goal.returns-then-lent-eq0
unfolding gaps_for
returns-then-lent-eq0 c = rw (eq-eqb _ _ c.if-lent-eq0.true)

pub returns-else-lent-eq0 : goal.returns-else-lent-eq0
unfolding gaps_for
returns-else-lent-eq0 c = rw (ne_eqb _ _ c.if-lent-eq0.false)
