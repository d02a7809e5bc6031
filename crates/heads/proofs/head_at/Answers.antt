use native.Mathlib.Omega.{arith}
use Rattle.heads.proofs.Stamps.{past_end, without_lf, with_lf}
use borrow.Author.Rules.{rules}
use Rattle.heads.proofs.head_at.Goals as goal

pub returns-then-s-at : goal.returns-then-s-at
returns-then-s-at c = past_end _ _ c.if-s-at.true

pub returns-then-end-s : goal.returns-then-end-s
returns-then-end-s c = without_lf _ _ _ (c.find-end.ensures.place, c.find-end.ensures.within (omega arith)) c.stamp-time.ensures (search rules) c.if-end-s.true

pub returns-else-end-s : goal.returns-else-end-s
returns-else-end-s c = with_lf _ _ _ (c.find-end.ensures.place, c.find-end.ensures.within (omega arith)) c.stamp-time.ensures (search rules) c.if-end-s.false
