-- A byte that is no LF, and the LF behind it.
use Rattle.tail.specs.Ends.{EndsAt}
use Rattle.tail.proofs.Tails.{end_here}
use native.Mathlib.Omega.{arith}
use Rattle.tail.proofs.some.Goals as goal

pub returns-then-n-eq0 : goal.returns-then-n-eq0
unfolding EndsAt
returns-then-n-eq0 c = tt

pub returns-then-end-s : goal.returns-then-end-s
unfolding EndsAt
returns-then-end-s c = tt

pub returns : goal.returns
returns c = end_here _ _ _ _ c.skip.ensures c.find-end.ensures.place _ c.if-n-eq0.false c.if-s-at.false c.if-s-at-eq10.false (c.find-end.ensures.within (omega arith)) c.if-end-s.false
