use mathlib.Core.Path.{◌≡◌, refl, ◌∙◌}
use mathlib.Core.Bool.{Bool, true, false}
use lib.ListN.{length}
use mir.Val.{bool_byte}
use Rattle.forms.specs.Sizes.{sign_shown}
use Rattle.shown.proofs.write.sign_length.Goals as goal

counted : (minus : Bool) → bool_byte minus ≡ length (sign_shown minus)
unfolding sign_shown
counted true = refl
counted false = refl

pub returns : goal.returns
returns c = c.from.ensures ∙ counted _
