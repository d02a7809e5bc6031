use native.Mathlib.Omega.{arith}
use Rattle.waits.specs.Tables.{latency_of, latencies_of}
use Rattle.waits.proofs.Filling.{fill_next, fill_all, of_entry}
use Rattle.waits.proofs.latencies_into.Goals as goal

pub loop-i-preserved : goal.loop-i-preserved
loop-i-preserved c = fill_next _ _ c.loop-i.invariant _ c.loop-i-test.true
    (of_entry (latency_of _) _ (omega arith) c.latency_at.ensures)

pub returns : goal.returns
unfolding latencies_of
returns c = fill_all _ _ c.loop-i.invariant _ c.loop-i-test.false
