use native.Mathlib.Omega.{arith}
use Rattle.inquiry.proofs.Arguments.{share_named, share_unnamed}
use Rattle.inquiry.proofs.begun.share_in.Goals as goal

pub returns-then-count-gt5 : goal.returns-then-count-gt5
returns-then-count-gt5 c = share_named _ _ (omega (arith, c.if-count-gt5.true)) c.share_of.ensures

pub returns : goal.returns
returns c = share_unnamed _ _ (omega (arith, c.if-count-gt5.false))
