-- The sign, the places of the whole seconds, the point and six digits.
use mathlib.Core.Path.{sym}
use native.Mathlib.Omega.{arith}
use Rattle.shown.proofs.Puts.{short_signed, length_signed}
use Rattle.shown.proofs.write.signed_length.Goals as goal

pub overflow_add-result : goal.overflow_add-result
overflow_add-result c = omega (arith, short_signed _ _ _ _ c.sign_length-sign.ensures c.places-k.ensures)

pub overflow_add-result-2 : goal.overflow_add-result-2
overflow_add-result-2 c = omega (arith, short_signed _ _ _ _ c.sign_length-sign.ensures c.places-k.ensures)

pub returns : goal.returns
returns c = sym (length_signed _ c.args.size _ _ c.sign_length-sign.ensures c.places-k.ensures)
