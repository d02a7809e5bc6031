-- Whole numbers, or times.
use native.Mathlib.Omega.{arith}
use Rattle.std.proofs.lemmas.Bool.Decides.{nat_tests}
use Rattle.signed.proofs.Equal.{bits_same}
use Rattle.paper.specs.Line.{described}
use Rattle.field.specs.Cursor.{read_as}
use Rattle.quick.specs.Lines.{in_form, DataAt}
use Rattle.quick.proofs.Takes.{as_described}
use Rattle.quick.proofs.body.described.Goals as goal

pub returns-in-2 : goal.returns-in-2
unfolding in_form read_as described
returns-in-2 c = as_described _ _ _ _ _ (λ f. grind (arith, nat_tests, bits_same)) c.values.ensures

pub returns-in-5 : goal.returns-in-5
unfolding in_form read_as described
returns-in-5 c = as_described _ _ _ _ _ (λ f. grind (arith, nat_tests, bits_same)) c.values-in-5.ensures

pub returns-in_default : goal.returns-in_default
unfolding DataAt
returns-in_default c = tt
