-- the four cases of the definition, by which either code is even or odd.
use native.Mathlib.Omega.{arith}
use mathlib.Core.Path.{refl}
use Rattle.signed.proofs.Codes.{even, odd}
use Rattle.signed.proofs.between.Goals as goal

pub returns-then-later-eq0 : goal.returns-then-later-eq0
returns-then-later-eq0 c = rw (← even _ c.if-earlier-eq0.true, ← even _ c.if-later-eq0.true) c.saturating_sub.ensures

pub returns-then-earlier-eq0 : goal.returns-then-earlier-eq0
returns-then-earlier-eq0 c = rw (← even _ c.if-earlier-eq0.true, ← odd _ c.if-later-eq0.false) refl

pub returns-then-later-eq0-2 : goal.returns-then-later-eq0-2
returns-then-later-eq0-2 c = rw (← odd _ c.if-earlier-eq0.false, ← even _ c.if-later-eq0-2.true) (omega arith)

pub returns : goal.returns
returns c = rw (← odd _ c.if-earlier-eq0.false, ← odd _ c.if-later-eq0-2.false) c.saturating_sub-2.ensures
