-- The invariant: the first i latencies are there.
use lib.ListN.{length}
use Rattle.store.specs.Layout.{entries_in}
use Rattle.waits.specs.Tables.{latency_at}
use Rattle.waits.proofs.Filling.{Filling}
use Rattle.waits.proofs.latencies_into.Given as goal

abbrev pub invariant-loop-i : goal.invariant-loop-i
invariant-loop-i l = Filling 0 (latency_at l.table (entries_in l.store (length l.initial.out))) (length l.initial.out) l.out l.i
