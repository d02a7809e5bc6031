use native.Mathlib.Omega.{arith}
use Rattle.std.proofs.lemmas.Bool.Decides.{nat_tests}
use Rattle.paper.specs.Levels as levels
use Rattle.signed.proofs.Equal.{bits_same}
use Rattle.levels.proofs.expected.same_three.Goals as goal

pub returns-then-user-asked : goal.returns-then-user-asked
unfolding levels.expected
returns-then-user-asked c = grind (arith, nat_tests, bits_same)

pub returns-else-user-asked : goal.returns-else-user-asked
unfolding levels.expected
returns-else-user-asked c = grind (arith, nat_tests, bits_same)
