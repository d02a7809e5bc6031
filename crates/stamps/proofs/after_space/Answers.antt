-- No byte left, no space, and a space.
use native.Mathlib.Omega.{arith}
use Rattle.stamps.proofs.Places.{at_end, no_space, a_space}
use Rattle.stamps.proofs.after_space.Goals as goal

pub returns-then-s-at : goal.returns-then-s-at
returns-then-s-at c = at_end _ _ c.if-s-at.true

pub returns-then-space-s : goal.returns-then-space-s
returns-then-space-s c = no_space _ _ _ c.find-space.ensures.place c.if-space-s.true

pub returns-else-space-s : goal.returns-else-space-s
returns-else-space-s c = a_space _ _ _ c.find-space.ensures.place (c.find-space.ensures.within (omega arith)) c.if-space-s.false
