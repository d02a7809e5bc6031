-- Good fields: what stands behind a sign, that its number is in range, that no other field reads as the same, and that neither a
-- space nor an LF is among its bytes.
use Rattle.std.specs.Prelude.{Option, Some, None}
use Prim.Native.Nat.{ℕ, zero, suc, ◌≤◌}
use mathlib.Core.Path.{◌≡◌, refl, ap}
use mathlib.Core.List.{List, [], ◌∷◌}
use mathlib.Core.Bool.{Bool, true, false, cond}
use lib.IntN.{ℤ, pos, negsuc, nat_abs}
use lib.Dec.{eqb}
use borrow.Author.Tests.{eqb-true}
use Rattle.paper.specs.Forms.{has_minus, signed, behind_sign, whole_size, whole_of, time_size, time_of}
use Rattle.forms.specs.Sizes.{AtMost}
use Rattle.forms.specs.Free.{Free, foreign}
use Rattle.forms.proofs.Tests.{never}
use Rattle.forms.proofs.Foreign.{foreign_minus, part_free, parts_free}
use Rattle.forms.proofs.Wholes.{one_part, whole_range, whole_is_part}
use Rattle.forms.proofs.Times.{one_time, time_range}

-- ---- a good field: a size, or a minus and a size that is not zero

data Signed (size : List ℕ → Option ℕ) : List ℕ → ℤ → Type 0 where
  plain : {s : List ℕ} {n : ℕ} → size s ≡ Some n → Signed size s (pos n)
  minus : {s : List ℕ} {n : ℕ} → size s ≡ Some (suc n) → Signed size (45 ∷ s) (negsuc n)

module _ (size : List ℕ → Option ℕ) where
  plain_good : (s : List ℕ) (z : ℤ) (o : Option ℕ) → size s ≡ o → signed false o ≡ Some z → Signed size s z
  unfolding signed
  plain_good s z None p e = never (cc)
  plain_good s z (Some n) p e = let q : pos n ≡ z = cc in rw (← q) (plain p)

  minus_good : (s : List ℕ) (z : ℤ) (o : Option ℕ) → size s ≡ o → signed true o ≡ Some z → Signed size (45 ∷ s) z
  unfolding signed
  minus_good s z None p e = never (cc)
  minus_good s z (Some zero) p e = never (cc)
  minus_good s z (Some (suc n)) p e = let q : negsuc n ≡ z = cc in rw (← q) (minus p)

  good_signed : (s : List ℕ) (z : ℤ) → behind_sign size s ≡ Some z → Signed size s z
  unfolding behind_sign has_minus
  good_signed [] z e = plain_good [] z (size []) refl e
  good_signed (b ∷ s) z e = go (eqb b 45) refl e
    where
      go : (t : Bool) → eqb b 45 ≡ t → signed t (cond t (size s) (size (b ∷ s))) ≡ Some z → Signed size (b ∷ s) z
      go true p e = rw (eqb-true b 45 p) (minus_good s z (size s) refl e)
      go false p e = plain_good (b ∷ s) z (size (b ∷ s)) refl e

  in_range : (most : ℕ) {s : List ℕ} {z : ℤ} → ((s : List ℕ) → AtMost most (size s)) → Signed size s z → nat_abs z ≤ most
  unfolding AtMost
  in_range most h (plain p) = h _ _ p
  in_range most h (minus p) = h _ _ p

  only : {s t : List ℕ} {z : ℤ} → ((s t : List ℕ) (n : ℕ) → size s ≡ Some n → size t ≡ Some n → s ≡ t) → Signed size s z → Signed size t z → s ≡ t
  only h (plain p) (plain q) = h _ _ _ p q
  only h (minus p) (minus q) = ap (λ (l : List ℕ). 45 ∷ l) (h _ _ _ p q)

  clean : (b : ℕ) {s : List ℕ} {z : ℤ} → foreign b ≡ true → ((s : List ℕ) (n : ℕ) → size s ≡ Some n → Free b s) → Signed size s z → Free b s
  unfolding Free
  clean b f h (plain p) = h _ _ p
  clean b f h (minus p) = (foreign_minus b f, h _ _ p)

-- ---- whole numbers

pub whole_in_range : (s : List ℕ) (z : ℤ) → whole_of s ≡ Some z → nat_abs z ≤ 999999999
unfolding whole_of
whole_in_range s z e = in_range whole_size 999999999 whole_range (good_signed whole_size s z e)

-- so that a field that reads as 2, say, is the single byte "2"
pub one_whole_field : (s t : List ℕ) (z : ℤ) → whole_of s ≡ Some z → whole_of t ≡ Some z → s ≡ t
unfolding whole_of
one_whole_field s t z p q =
    only whole_size (λ s t n p q. one_part s t n (whole_is_part s n p) (whole_is_part t n q)) (good_signed whole_size s z p) (good_signed whole_size t z q)

pub whole_free : (b : ℕ) → foreign b ≡ true → (s : List ℕ) (z : ℤ) → whole_of s ≡ Some z → Free b s
unfolding whole_of
whole_free b f s z e = clean whole_size b f (λ s n p. part_free b f s n (whole_is_part s n p)) (good_signed whole_size s z e)

-- ---- times

pub time_in_range : (s : List ℕ) (z : ℤ) → time_of s ≡ Some z → nat_abs z ≤ 999999999999999
unfolding time_of
time_in_range s z e = in_range time_size 999999999999999 time_range (good_signed time_size s z e)

pub one_time_field : (s t : List ℕ) (z : ℤ) → time_of s ≡ Some z → time_of t ≡ Some z → s ≡ t
unfolding time_of
one_time_field s t z p q = only time_size one_time (good_signed time_size s z p) (good_signed time_size t z q)

pub time_free : (b : ℕ) → foreign b ≡ true → (s : List ℕ) (z : ℤ) → time_of s ≡ Some z → Free b s
unfolding time_of
time_free b f s z e = clean time_size b f (parts_free b f) (good_signed time_size s z e)
