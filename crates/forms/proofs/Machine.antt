-- A signed number read back from the machine's bits, `to_z w64 (of_z w64 z)`: negated, and tested against zero and a limit.
use Prim.Native.Nat.{ℕ, zero, suc, ◌≤◌, ◌<◌, ◌^◌}
use mathlib.Core.Path.{◌≡◌, refl, ◌∙◌}
use mathlib.Core.Bool.{true, false}
use native.Mathlib.Omega.{arith}
use lib.IntN.{ℤ, pos, negsuc, neg_ℤ, nat_abs, ◌-ℤ◌, +ℤ_idl}
use lib.Signed.{lt_z, non_neg}
use lib.Dec.{T}
use borrow.Author.Tests.{ltb-true, ltb-false}
use mir.Syntax.{w64}
use mir.Val.{SFits, to_z, of_z}
use mir.Facts.{to_z-of_z}
use Rattle.forms.proofs.Tests.{never}

-- ---- a signed number z, negated

pub sized : (z : ℤ) → nat_abs z < 2 ^ 63 → SFits w64 z
sized (pos n) h = record { sfits = h }
sized (negsuc n) h = record { sfits = omega arith }

pub abs_neg : (z : ℤ) → nat_abs (neg_ℤ z) ≡ nat_abs z
abs_neg (pos zero) = refl
abs_neg (pos (suc n)) = refl
abs_neg (negsuc n) = refl

module _ {z : ℤ} (f : SFits w64 z) (h : nat_abs z < 2 ^ 63) where
  minus : pos 0 -ℤ to_z w64 (of_z w64 z) ≡ neg_ℤ z
  minus = rw (to_z-of_z f) (+ℤ_idl (neg_ℤ z))

  pub minus_fits : SFits w64 (pos 0 -ℤ to_z w64 (of_z w64 z))
  minus_fits = rw minus (sized (neg_ℤ z) (rw (abs_neg z) h))

  pub minus_back : to_z w64 (of_z w64 (pos 0 -ℤ to_z w64 (of_z w64 z))) ≡ neg_ℤ z
  minus_back = to_z-of_z minus_fits ∙ minus

-- ---- its size, from the code's tests against zero and against a limit m

module _ (m : ℕ) {z : ℤ} (f : SFits w64 z) where
  pub below_limit : lt_z (to_z w64 (of_z w64 z)) (negsuc m) ≡ true → suc m < nat_abs z
  below_limit e = go z (rw (to_z-of_z f) at e)
    where
      go : (z : ℤ) → lt_z z (negsuc m) ≡ true → suc m < nat_abs z
      go (pos n) e = never (cc)
      go (negsuc n) e = omega (arith, ltb-true m n e)

  pub above_limit : lt_z (pos m) (to_z w64 (of_z w64 z)) ≡ true → m < nat_abs z
  above_limit e = go z (rw (to_z-of_z f) at e)
    where
      go : (z : ℤ) → lt_z (pos m) z ≡ true → m < nat_abs z
      go (pos n) e = ltb-true m n e
      go (negsuc n) e = never (cc)

  pub negative : lt_z (to_z w64 (of_z w64 z)) (pos 0) ≡ true → lt_z (to_z w64 (of_z w64 z)) (negsuc m) ≡ false → T (non_neg (neg_ℤ z)) × (nat_abs z ≤ suc m)
  negative e p = go z (rw (to_z-of_z f) at e) (rw (to_z-of_z f) at p)
    where
      go : (z : ℤ) → lt_z z (pos 0) ≡ true → lt_z z (negsuc m) ≡ false → T (non_neg (neg_ℤ z)) × (nat_abs z ≤ suc m)
      go (pos n) e p = absurd (omega (arith, ltb-true n 0 e))
      go (negsuc n) e p = (tt, omega (arith, ltb-false m n p))

  pub positive : lt_z (to_z w64 (of_z w64 z)) (pos 0) ≡ false → lt_z (pos m) (to_z w64 (of_z w64 z)) ≡ false → T (non_neg z) × (nat_abs z ≤ m)
  positive e p = go z (rw (to_z-of_z f) at e) (rw (to_z-of_z f) at p)
    where
      go : (z : ℤ) → lt_z z (pos 0) ≡ false → lt_z (pos m) z ≡ false → T (non_neg z) × (nat_abs z ≤ m)
      go (pos n) e p = (tt, ltb-false m n p)
      go (negsuc n) e p = never (cc)
