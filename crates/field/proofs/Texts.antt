-- A field that has to be one text.
use Prim.Native.Nat.{ℕ}
use mathlib.Core.Path.{◌≡◌}
use mathlib.Core.Bool.{Bool, true, false}
use mathlib.Core.List.{List}
use lib.IntN.{pos}
use Rattle.std.specs.Bool.{then_some}
use Rattle.paper.specs.Text.{is_same}
use Rattle.paper.specs.Forms.{text_of}

pub text_told : (s text : List ℕ) (told : Bool) → told ≡ is_same s text → then_some told (pos 0) ≡ text_of text s
unfolding text_of
text_told s text true tells = rw (← tells)
text_told s text false tells = rw (← tells)
