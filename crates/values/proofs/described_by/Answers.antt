use native.Mathlib.Omega.{arith}
use Rattle.std.proofs.lemmas.Bool.Decides.{nat_tests}
use Rattle.paper.specs.Line.{described}
use Rattle.field.specs.Cursor.{read_as}
use Rattle.signed.proofs.Equal.{bits_same}
use Rattle.values.proofs.described_by.Goals as goal

pub returns-in-2 : goal.returns-in-2
unfolding read_as described
returns-in-2 c = grind (arith, nat_tests, bits_same)

pub returns-in-5 : goal.returns-in-5
unfolding read_as described
returns-in-5 c = grind (arith, nat_tests, bits_same)

pub returns-in_default : goal.returns-in_default
unfolding described
returns-in_default c = grind (arith, nat_tests, bits_same)
