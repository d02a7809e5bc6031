use native.Mathlib.Omega.{arith}
use Rattle.table.proofs.Turns.{turn, end}
use Rattle.table.proofs.fill.Goals as goal

pub loop-i-preserved : goal.loop-i-preserved
loop-i-preserved c = turn c.loop-i.invariant (omega arith) c.latency.ensures

pub returns : goal.returns
returns c = end c.loop-i.invariant (omega arith)
