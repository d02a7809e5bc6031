use native.Mathlib.Omega.{arith}
use Rattle.engine.proofs.Stepping.{step_over, step_same, step_on, late, start_low, start_high}
use Rattle.engine.proofs.rounds.Goals as goal

pub returns-then-not-all_low : goal.returns-then-not-all_low
returns-then-not-all_low c = start_high _ _ _ _ _ (rw c.if-not-all_low.true at c.all_low.ensures) _ _

pub loop-k-init : goal.loop-k-init
loop-k-init c = start_low _ _ _ _ _ (rw c.if-not-all_low.false at c.all_low.ensures)

pub returns-in-Over : goal.returns-in-Over
returns-in-Over c = step_over _ _ _ _ _ c.loop-k.invariant c.step.ensures c.in-Over.is

pub returns-in-Same : goal.returns-in-Same
returns-in-Same c = step_same _ _ _ _ _ c.loop-k.invariant c.step.ensures c.in-Same.is

pub loop-k-preserved : goal.loop-k-preserved
loop-k-preserved c = step_on _ _ _ _ _ c.loop-k.invariant c.step.ensures c.in-Moved.is

pub returns : goal.returns
returns c = late _ _ _ _ _ c.loop-k.invariant (omega arith) (omega arith) _ _
