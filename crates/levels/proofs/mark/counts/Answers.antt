use native.Mathlib.Omega.{arith}
use Rattle.std.proofs.lemmas.Bool.Decides.{nat_tests}
use Rattle.paper.specs.Levels as levels
use Rattle.signed.proofs.Equal.{bits_same}
use Rattle.levels.proofs.mark.counts.Goals as goal

pub returns-then-kind_at : goal.returns-then-kind_at
unfolding levels.counts
returns-then-kind_at c = grind (arith, nat_tests, bits_same)

pub returns-else-kind_at : goal.returns-else-kind_at
unfolding levels.counts
returns-else-kind_at c = grind (arith, nat_tests, bits_same)
