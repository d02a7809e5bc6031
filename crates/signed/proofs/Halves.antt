-- What the code of a number is made of: half the code, as a signed number of 64 bits that is not negative.
use Prim.Native.Nat.{ℕ, zero, suc, ◌+◌, ◌*◌, ◌/◌, ◌%◌, ◌<◌, ◌^◌}
use mathlib.Core.Path.{◌≡◌, refl, sym, ap}
use mathlib.Core.Bool.{true, false, true≢false}
use native.Mathlib.Omega.{arith}
use borrow.Author.Tests.{leb-false, le-ltb}
use lib.Dec.{T}
use lib.IntN.{ℤ, pos, negsuc, nat_abs, ◌-ℤ◌}
use lib.Signed.{le_z, non_neg}
use mir.Syntax.{w64}
use mir.Val.{SFits, to_z, of_z}
use mir.Facts.{to_z-of_z, to_z_pos}
use Rattle.signed.specs.Codes.{code_of, decoded}
use Rattle.signed.proofs.Codes.{even, odd}

-- twice y and so many more are the code of z
pub record Half (z y : ℤ) (more : ℕ) : Type 0 where
  pub plain : T (non_neg y)
  pub low : nat_abs y < 2 ^ 63
  pub is : nat_abs y * 2 + more ≡ code_of z

-- ---- -1 - z

minus_plain : (n : ℕ) → negsuc 0 -ℤ pos n ≡ negsuc n
minus_plain zero = refl
minus_plain (suc n) = ap negsuc (omega arith)

minus_negative : (n : ℕ) → negsuc 0 -ℤ negsuc n ≡ pos n
minus_negative n = rw (le-ltb (suc n) 1 (omega arith)) (ap pos (omega arith))

minus_small : (z : ℤ) → SFits w64 z → SFits w64 (negsuc 0 -ℤ z)
minus_small (pos n) f = rw (minus_plain n) (record { sfits = f.sfits })
minus_small (negsuc n) f = rw (minus_negative n) (record { sfits = f.sfits })

-- ---- half the code of a number that went through a local, which shows as its bits

module _ {z : ℤ} (fits : SFits w64 z) where
  pub minus_fits : SFits w64 (negsuc 0 -ℤ to_z w64 (of_z w64 z))
  minus_fits = rw (to_z-of_z fits) (minus_small z fits)

  pub half_plain : le_z (pos 0) (to_z w64 (of_z w64 z)) ≡ true → Half z (to_z w64 (of_z w64 z)) 0
  unfolding code_of
  half_plain e = rw (to_z-of_z fits) (go z fits (rw (to_z-of_z fits) at e))
    where
      go : (z : ℤ) → SFits w64 z → le_z (pos 0) z ≡ true → Half z z 0
      go (pos n) f e = record { plain = tt; low = f.sfits; is = omega arith }
      go (negsuc n) f e = absurd (true≢false (sym e))

  pub half_negative : le_z (pos 0) (to_z w64 (of_z w64 z)) ≡ false → Half z (to_z w64 (of_z w64 (negsuc 0 -ℤ to_z w64 (of_z w64 z)))) 1
  unfolding code_of
  half_negative e = rw (to_z-of_z minus_fits, to_z-of_z fits) (go z fits (rw (to_z-of_z fits) at e))
    where
      go : (z : ℤ) → SFits w64 z → le_z (pos 0) z ≡ false → Half z (negsuc 0 -ℤ z) 1
      go (pos n) f e = absurd (omega (arith, leb-false 0 n e))
      go (negsuc n) f e = rw (minus_negative n) (record { plain = tt; low = f.sfits; is = omega arith })

-- ---- the number from half its code

module _ (n : ℕ) (fits : n < 2 ^ 64) where
  plain : to_z w64 (n / 2) ≡ pos (n / 2)
  plain = to_z_pos w64 {n = n / 2} (omega arith)

  minus : negsuc 0 -ℤ to_z w64 (n / 2) ≡ negsuc (n / 2)
  minus = rw plain (minus_plain (n / 2))

  pub half_fits : SFits w64 (negsuc 0 -ℤ to_z w64 (n / 2))
  half_fits = rw minus (record { sfits = omega arith })

  pub from_even : n % 2 ≡ 0 → to_z w64 (n / 2) ≡ decoded n
  from_even e = rw plain (even n e)

  pub from_odd : (n % 2 ≡ 0 → ⊥) → to_z w64 (of_z w64 (negsuc 0 -ℤ to_z w64 (n / 2))) ≡ decoded n
  from_odd e = rw (to_z-of_z half_fits, minus) (odd n e)
