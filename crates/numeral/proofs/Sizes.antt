-- Sizes that 64 bits hold: digits that make more are told before they do, and a sign makes the number of its code.
use Rattle.std.specs.Prelude.{Option, Some, None}
use Prim.Native.Nat.{ℕ, zero, suc, ◌+◌, ◌-◌, ◌*◌, ◌^◌, ◌≤◌, ◌<◌}
use native.Mathlib.Omega.{arith}
use mathlib.Core.Path.{◌≡◌, refl, sym, ap, ◌∙◌}
use mathlib.Core.Bool.{Bool, true, false, cond}
use mathlib.Core.List.{List, [], ◌∷◌}
use Rattle.std.proofs.lemmas.Option.{same_Some}
use lib.IntN.{ℤ, pos, negsuc}
use lib.ListN.{length, get_or, take, drop, drop_of_length-le}
use lib.Seq.{drop-cons}
use lib.Dec.{leb}
use borrow.Author.Tests.{le-leb, lt-leb, leb-true}
use mir.Syntax.{w64}
use mir.Val.{to_z, of_z}
use Rattle.paper.specs.Forms.{has_minus, signed, digits_from, at_most}
use Rattle.forms.specs.Sizes.{AtMost, whole_part}
use Rattle.forms.proofs.Runs.{first}
use Rattle.forms.proofs.Signs.{part_from}
use Rattle.signed.specs.Codes.{code_of, decoded}
use Rattle.signed.proofs.Codes.{code_back}
use Rattle.numeral.specs.Numeral.{numeral_of}

-- ---- how large

pub no_more : (most : ℕ) (o : Option ℕ) → ((n : ℕ) → o ≡ Some n → most < n) → at_most most o ≡ None
unfolding at_most
no_more most None h = refl
no_more most (Some n) h = rw (lt-leb n most (h n refl))

pub at_most_lem : (most : ℕ) (o : Option ℕ) → AtMost most (at_most most o)
unfolding at_most AtMost
at_most_lem most None n e = absurd (let z : ◌≡◌ {A = ℕ} 0 1 = cc in omega arith)
at_most_lem most (Some m) n e = go (leb m most) refl e
  where
    go : (t : Bool) → leb m most ≡ t → cond t (Some m) None ≡ Some n → n ≤ most
    go true t e = let z : m ≡ n = cc in rw (← z) (leb-true m most t)
    go false t e = absurd (let z : ◌≡◌ {A = ℕ} 0 1 = cc in omega arith)

-- each digit more makes it no less
no_less : (v n : ℕ) (s : List ℕ) → digits_from v s ≡ Some n → v ≤ n
unfolding digits_from
no_less v n [] e = let z : v ≡ n = same_Some v n e in omega arith
no_less v n (d ∷ s) e = let f = first v d s e in omega (arith, no_less (v * 10 + (d - 48)) n s f.2)

-- a digit behind more than a tenth of 2 ^ 63
pub too_large : (s : List ℕ) (i v most : ℕ) → i < length s → 922337203685477580 < v → most ≤ 2 ^ 63
    → at_most most (digits_from v (drop i s)) ≡ None
too_large s i v most h large limit = no_more most (digits_from v (drop i s)) (λ n e. go n (rw (drop-cons s i 0 h) at e))
  where
    go : (n : ℕ) → digits_from v (get_or s i 0 ∷ drop (suc i) s) ≡ Some n → most < n
    go n e =
        let f = first v (get_or s i 0) (drop (suc i) s) e in
        omega (arith, no_less (v * 10 + (get_or s i 0 - 48)) n (drop (suc i) s) f.2)

pub in_all : (most v : ℕ) → v ≤ most → Some v ≡ at_most most (Some v)
unfolding at_most
in_all most v h = rw (le-leb v most h)

pub above_all : (most v : ℕ) → most < v → None ≡ at_most most (Some v)
unfolding at_most
above_all most v h = rw (lt-leb v most h)

pub none_of : (most : ℕ) {o : Option ℕ} → o ≡ None → None ≡ at_most most o
unfolding at_most
none_of most e = rw e

pub zero_of : (most : ℕ) {o : Option ℕ} → o ≡ Some 0 → Some 0 ≡ at_most most o
unfolding at_most
zero_of most e = rw (e, le-leb 0 most (omega arith))

-- nothing is left to read
pub all_read : (s : List ℕ) (i v : ℕ) {o : Option ℕ} → o ≡ digits_from v (drop i s) → length s ≤ i → Some v ≡ o
unfolding digits_from
all_read s i v e h = sym (e ∙ ap (digits_from v) (drop_of_length-le s h))

-- ---- the sign

-- a signed number that went through a local shows as its bits
pub minus_code : (m : ℕ) → (m ≡ 0 → ⊥) → {z : ℤ} → z ≡ decoded (2 * (m - 1) + 1) → to_z w64 (of_z w64 z) ≡ z
    → Some (to_z w64 (of_z w64 z)) ≡ signed true (Some m)
unfolding signed code_of
minus_code zero h e back = absurd (h refl)
minus_code (suc n) h e back =
    let less : suc n - 1 ≡ n = omega arith in ap Some (back ∙ e ∙ rw less (code_back (negsuc n)))

pub plus_code : (m : ℕ) {z : ℤ} → z ≡ decoded (2 * m) → to_z w64 (of_z w64 z) ≡ z → Some (to_z w64 (of_z w64 z)) ≡ signed false (Some m)
unfolding signed code_of
plus_code m e back = ap Some (back ∙ e ∙ code_back (pos m))

module _ (s : List ℕ) {minus : Bool} (told : minus ≡ has_minus s) {r : Option ℤ} where
  pub behind_minus : minus ≡ true → {size : Option ℕ} → size ≡ at_most 9223372036854775808 (whole_part (take (length s - 1) (drop 1 s))) → r ≡ signed true size → r ≡ numeral_of s
  unfolding numeral_of
  behind_minus e f g = g ∙ rw (sym told ∙ e, f, part_from)

  pub behind_none : minus ≡ false → {size : Option ℕ} → size ≡ at_most 9223372036854775807 (whole_part s) → r ≡ signed false size → r ≡ numeral_of s
  unfolding numeral_of
  behind_none e f g = g ∙ rw (sym told ∙ e, f)
