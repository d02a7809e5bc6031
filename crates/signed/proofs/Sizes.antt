-- A number that is not negative.
use Rattle.std.specs.Prelude.{Result, Some, None, Ok, Err}
use Rattle.std.specs.Result.{OkIff, result_ok}
use Rattle.std.specs.Int.{FitsUnsignedBits}
use Prim.Native.Nat.{ℕ, ◌≤◌, ◌<◌}
use mathlib.Core.Path.{◌≡◌, refl, ap}
use native.Mathlib.Omega.{arith}
use lib.Dec.{leb-zero}
use lib.IntN.{ℤ, pos, negsuc, nat_abs}
use mir.Syntax.{w64}
use mir.Val.{SFits}
use borrow.Author.Tests.{le-leb, lt-leb}
use Rattle.signed.specs.Naturals.{size_of, natural_of}

-- ---- a signed number turned into a plain one by the library

pub size_told : {E : Type 0} (r : Result ℕ E) {u z : ℤ} → u ≡ z → SFits w64 z → OkIff r (FitsUnsignedBits 64 u) (nat_abs u) → result_ok r ≡ size_of z
unfolding size_of
size_told (Ok n) {z = pos m} same fits told = ap Some (rw same at told.1)
size_told (Ok n) {z = negsuc m} same fits told = absurd (rw same at told.0)
size_told (Err e) {z = pos m} same fits told = absurd (rw same at told (let f = fits.sfits in omega arith))
size_told (Err e) {z = negsuc m} same fits told = refl

-- ---- a size against the most

module _ (most : ℕ) (z : ℤ) where
  pub outside : size_of z ≡ None → None ≡ natural_of most z
  unfolding size_of natural_of
  outside e = go z e
    where
      go : (z : ℤ) → size_of z ≡ None → None ≡ natural_of most z
      go (pos n) e = cc
      go (negsuc n) e = refl

  pub above : (n : ℕ) → size_of z ≡ Some n → most < n → None ≡ natural_of most z
  unfolding size_of natural_of
  above n e h = go z e
    where
      go : (z : ℤ) → size_of z ≡ Some n → None ≡ natural_of most z
      go (pos m) e = let q : m ≡ n = cc in rw (q, leb-zero n, lt-leb n most h)
      go (negsuc m) e = cc

  pub upto : (n : ℕ) → size_of z ≡ Some n → n ≤ most → Some n ≡ natural_of most z
  unfolding size_of natural_of
  upto n e h = go z e
    where
      go : (z : ℤ) → size_of z ≡ Some n → Some n ≡ natural_of most z
      go (pos m) e = let q : m ≡ n = cc in rw (q, leb-zero n, le-leb n most h)
      go (negsuc m) e = cc
