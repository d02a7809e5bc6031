use native.Mathlib.Omega.{arith}
use Rattle.waits.proofs.Filling.{fill_whole}
use Rattle.steps.specs.Tables.{exact_table}
use Rattle.steps.proofs.keep_exact.Goals as goal

pub returns : goal.returns
unfolding exact_table
returns c = fill_whole _ _ c.loop-i.invariant.0 (omega (arith, c.loop-i.invariant.0.size, c.loop-i-test.false))
