-- How the rounds ended, told by both slices.
use native.Mathlib.Omega.{arith}
use Rattle.clock.proofs.Outcomes.{settled_rounds, settled_never, settled_misfit}
use Rattle.clock.proofs.settle.Goals as goal

pub returns-in-Ok : goal.returns-in-Ok
returns-in-Ok c = settled_rounds _ _ _ _ _ _ c.run_rounds.ensures _ c.in-Ok.is

pub returns-in-Err-Impossible : goal.returns-in-Err-Impossible
returns-in-Err-Impossible c = settled_never _ _ _ _ _ _ c.run_rounds.ensures (cc) (omega arith) (omega arith) (c.fill.ensures.after (λ y e. e)) (c.fill-in-Err-Impossible.ensures.after (λ y e. e))

pub returns-in-Err-Misfit : goal.returns-in-Err-Misfit
returns-in-Err-Misfit c = settled_misfit _ _ _ _ _ _ c.run_rounds.ensures (cc)
