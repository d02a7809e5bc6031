-- The laws of the codes: a number comes back from its code, and the codes of the paper's whole numbers and times have room.
use Prim.Native.Nat.{ℕ, ◌+◌, ◌*◌, ◌/◌, ◌%◌, ◌≤◌, ◌<◌, ◌^◌}
use mathlib.Core.Path.{◌≡◌}
use native.Mathlib.Omega.{arith}
use native.Mathlib.Decide.{ℕ_discrete}
use borrow.Author.Tests.{eq-eqb, ne_eqb}
use lib.IntN.{ℤ, pos, negsuc, nat_abs}
use Rattle.paper.specs.Gaps.{apart}
use Rattle.signed.specs.Codes.{code_of, decoded}

-- ---- back

-- an even code is a number that is not negative
pub even : (n : ℕ) → n % 2 ≡ 0 → pos (n / 2) ≡ decoded n
unfolding decoded
even n e = rw (eq-eqb (n % 2) 0 e)

-- an odd one is a negative number
pub odd : (n : ℕ) → (n % 2 ≡ 0 → ⊥) → negsuc (n / 2) ≡ decoded n
unfolding decoded
odd n e = rw (ne_eqb (n % 2) 0 e)

pub code_back : (z : ℤ) → decoded (code_of z) ≡ z
unfolding code_of
code_back (pos n) =
    let half : 2 * n / 2 ≡ n = omega arith in
    rw (← even (2 * n) (omega arith), half)
code_back (negsuc n) =
    let half : (2 * n + 1) / 2 ≡ n = omega arith in
    rw (← odd (2 * n + 1) (λ e. omega arith), half)

-- so two numbers by their codes are as far apart as they are
pub apart_coded : {a b : ℕ} (x y : ℤ) → a ≡ code_of x → b ≡ code_of y → apart (decoded a) (decoded b) ≡ apart x y
apart_coded x y e d = rw (e, d, code_back x, code_back y)

-- and a code from its number
pub code_forth : (n : ℕ) → code_of (decoded n) ≡ n
unfolding code_of
code_forth n = go (ℕ_discrete (n % 2) 0)
  where
    go : Dec (n % 2 ≡ 0) → code_of (decoded n) ≡ n
    go (yes e) = rw (← even n e) (omega arith)
    go (no e) = rw (← odd n e) (omega arith)

pub half_code : (n : ℕ) → code_of (pos n) / 2 ≡ n
unfolding code_of
half_code n = omega arith

-- ---- room

-- a code is at most twice the number's size
pub code_size : (z : ℤ) → code_of z ≤ 2 * nat_abs z
unfolding code_of
code_size (pos n) = omega arith
code_size (negsuc n) = omega arith

pub whole_code : (z : ℤ) → nat_abs z ≤ 999999999 → code_of z < 2 ^ 32
whole_code z h = omega (arith, code_size z)

pub time_code : (z : ℤ) → nat_abs z ≤ 999999999999999 → code_of z < 2 ^ 64
time_code z h = omega (arith, code_size z)
