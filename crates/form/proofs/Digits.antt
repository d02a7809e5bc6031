-- A turn of a loop that reads digits, by what the library's test of a byte told.
use Rattle.std.specs.Prelude.{None}
use Prim.Native.Nat.{ℕ, ◌+◌, ◌-◌, ◌*◌, ◌≤◌, ◌<◌}
use mathlib.Core.Path.{◌≡◌, sym, ◌∙◌}
use mathlib.Core.List.{List}
use mathlib.Core.Bool.{Bool, true, false, cond, ◌&&◌}
use native.Mathlib.Numerals.{add-one}
use native.Mathlib.Omega.{arith}
use lib.ListN.{length, get_or, drop}
use lib.Seq.{drop-cons}
use lib.Dec.{leb}
use borrow.Author.Tests.{leb-true}
use Rattle.paper.specs.Forms.{is_digit, digits_from}
use Rattle.forms.proofs.Tests.{both}

module _ (s : List ℕ) (i v : ℕ) (h : i < length s) {t : Bool} (told : t ≡ (leb 48 (get_or s i 0) && leb (get_or s i 0) 57)) where
  turn : digits_from v (drop i s) ≡ cond t (digits_from (v * 10 + (get_or s i 0 - 48)) (drop (i + 1) s)) None
  unfolding digits_from is_digit
  turn = rw (add-one, drop-cons s i 0 h, told)

  pub no_digit : t ≡ false → digits_from v (drop i s) ≡ None
  no_digit e = turn ∙ rw e

  module _ (e : t ≡ true) where
    pub digit : digits_from v (drop i s) ≡ digits_from (v * 10 + (get_or s i 0 - 48)) (drop (i + 1) s)
    digit = turn ∙ rw e

    pub digit_small : get_or s i 0 - 48 ≤ 9
    digit_small =
        let high = leb-true (get_or s i 0) 57 (both (leb 48 (get_or s i 0)) (leb (get_or s i 0) 57) (sym told ∙ e)).1 in
        omega arith
