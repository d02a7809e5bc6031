-- Laws of what is written: the length of each part, and the number of places that a number has.
use Prim.Native.Nat.{ℕ, zero, suc, ◌+◌, ◌-◌, ◌/◌, ◌^◌, ◌≤◌, ◌<◌}
use mathlib.Core.Path.{◌≡◌, refl, sym}
use mathlib.Core.List.{◌++◌}
use mathlib.Core.Bool.{Bool, true, false, cond}
use mathlib.Core.Logic.{◌⊎◌, inl, inr}
use native.Mathlib.Nat.{eq-or-lt_of_le}
use native.Mathlib.Omega.{arith}
use lib.ListN.{length, length-append}
use lib.IntN.{ℤ, pos, negsuc, nat_abs}
use lib.Signed.{lt_z}
use lib.Dec.{leb}
use borrow.Author.Tests.{le-leb, lt-leb, le-ltb}
use Rattle.paper.specs.Forms.{fixed, places_from, size_shown, time_shown}
use Rattle.forms.specs.Sizes.{sign_shown}
use Rattle.forms.proofs.Runs.{cap}

pub length_fixed : (k n : ℕ) → length (fixed k n) ≡ k
unfolding fixed
length_fixed zero n = refl
length_fixed (suc k) n = rw (length-append, length_fixed k (n / 10)) (omega arith)

-- ---- places

-- counted from below: k places hold n, and fewer do not
pub counted : (most n k : ℕ) → 1 ≤ k → k ≤ most + 1 → n < 10 ^ k → (1 < k → 10 ^ (k - 1) ≤ n) → places_from most n ≡ k
unfolding places_from
counted zero n k l h p q = omega arith
counted (suc most) n k l h p q = go (eq-or-lt_of_le h) (λ g. counted most n k l g p q)
  where
    go : (k ≡ suc most + 1) ⊎ (k < suc most + 1) → (k ≤ most + 1 → places_from most n ≡ k) → places_from (suc most) n ≡ k
    go (inl e) f = rw (le-leb (10 ^ suc most) n (rw power at (q (omega arith)))) (sym e)
      where
        power : k - 1 ≡ suc most
        power = omega arith
    go (inr g) f = rw (lt-leb (10 ^ suc most) n (omega (arith, cap k (suc most) (omega arith)))) (f (omega arith))

pub places_low : (most n : ℕ) → 1 ≤ places_from most n
unfolding places_from
places_low zero n = omega arith
places_low (suc most) n = go (leb (10 ^ suc most) n) (places_low most n)
  where
    go : (t : Bool) → 1 ≤ places_from most n → 1 ≤ cond t (suc most + 1) (places_from most n)
    go true h = omega arith
    go false h = h

pub places_high : (most n : ℕ) → places_from most n ≤ most + 1
unfolding places_from
places_high zero n = omega arith
places_high (suc most) n = go (leb (10 ^ suc most) n) (places_high most n)
  where
    go : (t : Bool) → places_from most n ≤ most + 1 → cond t (suc most + 1) (places_from most n) ≤ suc most + 1
    go true h = omega arith
    go false h = omega arith

-- ---- lengths

pub length_size : (n : ℕ) → length (size_shown n) ≡ places_from 8 (n / 1000000) + 7
unfolding size_shown
length_size n = simp (length-append, length_fixed) (omega arith)

-- a time by its sign and its size
pub by_sign : (z : ℤ) → time_shown z ≡ sign_shown (lt_z z (pos 0)) ++ size_shown (nat_abs z)
unfolding time_shown sign_shown
by_sign (pos n) = rw (le-ltb n 0 (omega arith))
by_sign (negsuc n) = refl
