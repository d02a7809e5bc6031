use native.Mathlib.Omega.{arith}
use borrow.Author.Tests.{eq-eqb, ne_eqb}
use Rattle.solve.specs.Outcome.{kept_places}
use Rattle.solve.proofs.kept_places.Goals as goal

pub returns-then-share-eq0 : goal.returns-then-share-eq0
unfolding kept_places
returns-then-share-eq0 c = rw (eq-eqb c.args.share 0 (omega (arith, c.if-share-eq0.true)))

pub returns-else-share-eq0 : goal.returns-else-share-eq0
unfolding kept_places
returns-else-share-eq0 c = rw (ne_eqb c.args.share 0 (λ e. omega (arith, c.if-share-eq0.false)))
