use native.Mathlib.Omega.{arith}
use Rattle.std.proofs.lemmas.Bool.Decides.{nat_tests}
use Rattle.paper.specs.Line.{told_for}
use Rattle.field.specs.Cursor.{read_as}
use Rattle.signed.proofs.Equal.{bits_same}
use Rattle.values.proofs.pairs.told_form.Goals as goal

pub returns-then-kind-eqminus101 : goal.returns-then-kind-eqminus101
unfolding read_as told_for
returns-then-kind-eqminus101 c = grind (arith, nat_tests, bits_same)

pub returns-else-kind-eqminus101 : goal.returns-else-kind-eqminus101
unfolding read_as told_for
returns-else-kind-eqminus101 c = grind (arith, nat_tests, bits_same)
