-- Each statement leaves one answer.
use Rattle.std.specs.Prelude.{Option, ℤ}
use Prim.Native.Nat.{ℕ}
use mathlib.Core.Path.{◌≡◌, sym, ◌∙◌}
use mathlib.Core.List.{List}
use Rattle.numeral.specs.Numeral.{numeral_of, natural_in}

pub one_number : (s : List ℕ) (r q : Option ℤ) → r ≡ numeral_of s → q ≡ numeral_of s → r ≡ q
one_number s r q e f = e ∙ sym f

pub one_natural : (s : List ℕ) (r q : Option ℕ) → r ≡ natural_in s → q ≡ natural_in s → r ≡ q
one_natural s r q e f = e ∙ sym f
