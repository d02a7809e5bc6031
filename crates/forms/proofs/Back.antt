-- There and back: a time that the format holds is read back from what is written for it, and every good field is what is written
-- for its time. What is written has no foreign byte and is 8 to 17 bytes long.
use Rattle.std.specs.Prelude.{Some}
use Prim.Native.Nat.{ℕ, zero, suc, ◌+◌, ◌-◌, ◌*◌, ◌/◌, ◌%◌, ◌^◌, ◌≤◌, ◌<◌}
use mathlib.Core.Path.{◌≡◌, refl, ap, ◌∙◌}
use mathlib.Core.List.{List, [], ◌∷◌, ◌++◌}
use mathlib.Core.Bool.{Bool, true, false, cond}
use native.Mathlib.Nat.{pow-suc, mul_assoc}
use native.Mathlib.Omega.{arith}
use lib.ListN.{length, get_or, length-append, get_or-append}
use lib.Seq.{take_at, drop-append-add, get_or_at}
use lib.IntN.{ℤ, pos, negsuc, nat_abs}
use lib.Dec.{leb}
use borrow.Author.Tests.{le-leb, ne_eqb, leb-true, leb-false}
use Rattle.paper.specs.Forms.{is_digit, digits_from, unled, has_minus, signed, behind_sign, time_size, time_of, fixed, places_from, size_shown, time_shown}
use Rattle.forms.specs.Sizes.{whole_part}
use Rattle.forms.specs.Free.{Free, foreign}
use Rattle.forms.proofs.Runs.{onward, joined}
use Rattle.forms.proofs.Wholes.{part_led}
use Rattle.forms.proofs.Times.{point_at, in_parts}
use Rattle.forms.proofs.Shown.{length_fixed, length_size, places_low, places_high}
use Rattle.forms.proofs.Foreign.{free_append, foreign_digit, foreign_minus, foreign_point}
use Rattle.forms.proofs.Goods.{one_time_field, time_in_range}

-- ---- the places of a number below 10 ^ (most + 1): they hold it, and its first digit counts

pub record Places (n k : ℕ) : Type 0 where
  pub holds : n < 10 ^ k
  pub leads : (j : ℕ) → k ≡ suc (suc j) → 10 ^ suc j ≤ n

pub places_of : (most n : ℕ) → n < 10 ^ suc most → Places n (places_from most n)
unfolding places_from
places_of zero n h = record { holds = h; leads = (λ j e. absurd (omega arith)) }
places_of (suc most) n h = go (leb (10 ^ suc most) n) refl (places_of most n)
  where
    two : suc most + 1 ≡ suc (suc most)
    two = omega arith

    go : (t : Bool) → leb (10 ^ suc most) n ≡ t → (n < 10 ^ suc most → Places n (places_from most n)) → Places n (cond t (suc most + 1) (places_from most n))
    go true e f = record { holds = rw two h; leads = (λ j p. let q : suc most ≡ suc j = omega arith in rw (← q) (leb-true (10 ^ suc most) n e)) }
    go false e f = f (leb-false (10 ^ suc most) n e)

-- ---- digits, read back

is_digit_lem : (n : ℕ) → is_digit (n % 10 + 48) ≡ true
unfolding is_digit
is_digit_lem n = rw (le-leb 48 (n % 10 + 48) (omega arith), le-leb (n % 10 + 48) 57 (omega arith))

sum : (v p n : ℕ) → (v * p + n / 10) * 10 + (n % 10 + 48 - 48) ≡ v * (p * 10) + n
sum v p n = omega (arith, mul_assoc v p 10)

digits_back : (k v n : ℕ) → n < 10 ^ k → digits_from v (fixed k n) ≡ Some (v * 10 ^ k + n)
unfolding fixed digits_from onward
digits_back zero v n h = ap Some (omega arith)
digits_back (suc k) v n h =
    rw (joined v (fixed k (n / 10)) ((n % 10 + 48) ∷ []), digits_back k v (n / 10) (omega (arith, pow-suc 10 k)), is_digit_lem n, pow-suc 10 k, ← sum v (10 ^ k) n)

before_last : (k n : ℕ) → get_or (fixed (suc (suc k)) n) 0 0 ≡ get_or (fixed (suc k) (n / 10)) 0 0
unfolding fixed
before_last k n = get_or-append (fixed (suc k) (n / 10)) ((n % 10 + 48) ∷ []) 0 0 (omega (arith, length_fixed (suc k) (n / 10)))

first_digit : (j n : ℕ) → 48 ≤ get_or (fixed (suc j) n) 0 0
unfolding fixed
first_digit zero n = omega arith
first_digit (suc j) n = rw (before_last j n) (first_digit j (n / 10))

lead_digit : (j n : ℕ) → 10 ^ j ≤ n → n < 10 ^ suc j → 48 < get_or (fixed (suc j) n) 0 0
unfolding fixed
lead_digit zero n g h = omega arith
lead_digit (suc j) n g h = rw (before_last j n) (lead_digit j (n / 10) (omega (arith, pow-suc 10 j)) (omega (arith, pow-suc 10 (suc j))))

-- digits in as many places as the number has are a good part
part_back : (k n : ℕ) → 1 ≤ k → Places n k → whole_part (fixed k n) ≡ Some n
unfolding whole_part unled fixed
part_back zero n l p = absurd (omega arith)
part_back (suc zero) n l p = digits_back 1 0 n p.holds ∙ ap Some (omega arith)
part_back (suc (suc j)) n l p =
    part_led (fixed (suc (suc j)) n) (λ e. omega (arith, length_fixed (suc (suc j)) n)) (λ e. omega (arith, lead_digit (suc j) n (p.leads j refl) p.holds))
    ∙ digits_back (suc (suc j)) 0 n p.holds
    ∙ ap Some (omega arith)

-- ---- a whole part a, a point and six digits b

module _ (a b : List ℕ) (la : length a ≤ 9) (lb : length b ≡ 6) where
  point_at_lem : point_at (a ++ (46 ∷ b)) ≡ length a
  point_at_lem = rw length-append (omega arith)

  parts_back : time_size (a ++ (46 ∷ b)) ≡ onward (whole_part a) b
  parts_back =
      in_parts (a ++ (46 ∷ b)) (rw length-append (omega arith)) (rw point_at_lem (get_or_at a 46 b 0 (length a) refl))
      ∙ rw (point_at_lem, take_at a (46 ∷ b) (length a) refl, drop-append-add a (46 ∷ b) 1)

size_back : (n : ℕ) → n ≤ 999999999999999 → time_size (size_shown n) ≡ Some n
unfolding size_shown onward
size_back n h =
    let w = n / 1000000 in
    let k = places_from 8 w in
    parts_back (fixed k w) (fixed 6 (n % 1000000)) (rw length_fixed (places_high 8 w)) (length_fixed 6 (n % 1000000))
    ∙ rw (part_back k w (places_low 8 w) (places_of 8 w (omega arith)), digits_back 6 w (n % 1000000) (omega arith)) (ap Some (omega arith))

head_byte : (n : ℕ) → 48 ≤ get_or (size_shown n) 0 0
unfolding size_shown
head_byte n =
    let w = n / 1000000 in
    go (places_from 8 w) (places_low 8 w)
  where
    go : (k : ℕ) → 1 ≤ k → 48 ≤ get_or (fixed k (n / 1000000) ++ (46 ∷ fixed 6 (n % 1000000))) 0 0
    go zero l = absurd (omega arith)
    go (suc j) l =
        rw (get_or-append (fixed (suc j) (n / 1000000)) (46 ∷ fixed 6 (n % 1000000)) 0 0 (omega (arith, length_fixed (suc j) (n / 1000000))))
        (first_digit j (n / 1000000))

-- ---- times

pub there_and_back : (z : ℤ) → nat_abs z ≤ 999999999999999 → time_of (time_shown z) ≡ Some z
unfolding time_of time_shown behind_sign has_minus signed
there_and_back (pos n) h = rw (ne_eqb (get_or (size_shown n) 0 0) 45 (λ e. omega (arith, head_byte n)), size_back n h)
there_and_back (negsuc n) h = rw (size_back (suc n) h)

pub back_and_there : (s : List ℕ) (z : ℤ) → time_of s ≡ Some z → s ≡ time_shown z
back_and_there s z e = one_time_field s (time_shown z) z e (there_and_back z (time_in_range s z e))

-- ---- the bytes of what is written

module _ (b : ℕ) (f : foreign b ≡ true) where
  fixed_free : (k n : ℕ) → Free b (fixed k n)
  unfolding Free fixed
  fixed_free zero n = tt
  fixed_free (suc k) n = free_append b (fixed k (n / 10)) ((n % 10 + 48) ∷ []) (fixed_free k (n / 10)) (foreign_digit b f {d = n % 10 + 48} (omega arith) (omega arith), tt)

  size_free : (n : ℕ) → Free b (size_shown n)
  unfolding Free size_shown
  size_free n = free_append b (fixed (places_from 8 (n / 1000000)) (n / 1000000)) (46 ∷ fixed 6 (n % 1000000)) (fixed_free _ _) (foreign_point b f, fixed_free 6 _)

  pub shown_free : (z : ℤ) → Free b (time_shown z)
  unfolding Free time_shown
  shown_free (pos n) = size_free n
  shown_free (negsuc n) = (foreign_minus b f, size_free (suc n))

pub shown_long : (z : ℤ) → 8 ≤ length (time_shown z)
unfolding time_shown
shown_long (pos n) = omega (arith, length_size n, places_low 8 (n / 1000000))
shown_long (negsuc n) = omega (arith, length_size (suc n), places_low 8 (suc n / 1000000))

pub shown_short : (z : ℤ) → length (time_shown z) ≤ 17
unfolding time_shown
shown_short (pos n) = omega (arith, length_size n, places_high 8 (n / 1000000))
shown_short (negsuc n) = omega (arith, length_size (suc n), places_high 8 (suc n / 1000000))
