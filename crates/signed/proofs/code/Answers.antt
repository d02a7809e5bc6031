-- twice its half, and one more for a negative number.
use native.Mathlib.Omega.{arith}
use Rattle.signed.proofs.Halves.{half_plain, half_negative}
use Rattle.signed.proofs.code.Goals as goal

pub returns-then-z-ge0 : goal.returns-then-z-ge0
returns-then-z-ge0 c = let h = half_plain c.ranges.z c.if-z-ge0.true in omega arith

pub returns : goal.returns
returns c = (half_negative c.ranges.z c.if-z-ge0.false).is
