-- What a word tells as a number that is not negative.
use Rattle.std.specs.Prelude.{Option, Some, None}
use Prim.Native.Nat.{ℕ}
use mathlib.Core.Path.{◌≡◌, sym, ◌∙◌}
use mathlib.Core.List.{List}
use lib.IntN.{ℤ}
use Rattle.signed.specs.Naturals.{size_of}
use Rattle.numeral.specs.Numeral.{numeral_of, natural_by, natural_in}

module _ (word : List ℕ) {read : Option ℤ} (is : read ≡ numeral_of word) where
  pub no_number : (read ≡ None) → None ≡ natural_in word
  unfolding natural_in natural_by
  no_number e = rw (sym is ∙ e)

  pub a_number : {z y : ℤ} {n : Option ℕ} → read ≡ Some z → y ≡ z → n ≡ size_of y → n ≡ natural_in word
  unfolding natural_in natural_by
  a_number e s t = rw (sym is ∙ e, ← s) t
