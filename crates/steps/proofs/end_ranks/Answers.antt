use native.Mathlib.Omega.{arith}
use Rattle.waits.proofs.Filling.{fill_whole}
use Rattle.steps.specs.Tables.{end_ranks}
use Rattle.steps.proofs.end_ranks.Goals as goal

pub returns : goal.returns
unfolding end_ranks
returns c = fill_whole _ _ c.loop-i.invariant (omega (arith, c.loop-i.invariant.size, c.loop-i-test.false))
