-- What is kept of the gap between two times, at a share: nothing at 0, all of it at 1,000, and at a larger share no less.
use Prim.Native.Nat.{ℕ, ◌+◌, ◌*◌, ◌≤◌, ◌<◌}
use native.Mathlib.Omega.{arith}
use native.Mathlib.Nat.{mul-le-mul_right}
use mathlib.Core.Path.{◌≡◌}
use lib.IntN.{ℤ, pos, ◌+ℤ◌}
use lib.Signed.{◌≤ℤ◌, ≤ℤ_refl}
use Rattle.paper.specs.Gaps.{apart, gap_of}
use Rattle.rounds.proofs.Order.{sum_le, apart_sum}

-- "that many thousandths .., rounded down"
pub gap_down : (share : ℕ) (before own : ℤ)
    → (1000 * gap_of share before own ≤ share * apart before own) × (share * apart before own < 1000 * (gap_of share before own + 1))
unfolding gap_of
gap_down share before own = (omega arith, omega arith)

pub gap_none : (before own : ℤ) → gap_of 0 before own ≡ 0
unfolding gap_of
gap_none before own = omega arith

pub gap_whole : (before own : ℤ) → gap_of 1000 before own ≡ apart before own
unfolding gap_of
gap_whole before own = omega arith

pub gap_more : (share more : ℕ) (before own : ℤ) → share ≤ more → gap_of share before own ≤ gap_of more before own
unfolding gap_of
gap_more share more before own h = omega (arith, mul-le-mul_right (apart before own) h)

-- times that do not fall keep what they themselves ask for
pub own_gap : (share : ℕ) (before own : ℤ) → share ≤ 1000 → before ≤ℤ own → (before +ℤ pos (gap_of share before own)) ≤ℤ own
own_gap share before own h l =
    let all : gap_of share before own ≤ apart before own = rw (gap_whole before own) at (gap_more share 1000 before own h) in
    rw (apart_sum l) at (sum_le (≤ℤ_refl before) all)
