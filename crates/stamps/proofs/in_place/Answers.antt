use native.Mathlib.Omega.{arith}
use Rattle.std.proofs.lemmas.Bool.Decides.{nat_tests}
use Rattle.stamps.specs.Stamps.{in_place}
use Rattle.stamps.proofs.in_place.Goals as goal

pub returns-then-old-gt0 : goal.returns-then-old-gt0
unfolding in_place
returns-then-old-gt0 c = grind (arith, nat_tests)

pub returns-else-old-gt0 : goal.returns-else-old-gt0
unfolding in_place
returns-else-old-gt0 c = grind (arith, nat_tests)
