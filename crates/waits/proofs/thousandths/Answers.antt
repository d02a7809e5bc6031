-- No sum of it is too large.
use native.Mathlib.Omega.{arith}
use Rattle.waits.proofs.Gaps.{thousands}
use Rattle.waits.proofs.thousandths.Goals as goal

pub returns : goal.returns
returns c = rw c.from-share.ensures (omega (arith, thousands c.args.share c.args.n))
