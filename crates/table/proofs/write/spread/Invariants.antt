-- The loop's invariant: the bytes before 4 * i stand, and the latencies from i on give the others.
use Rattle.table.proofs.Written.{Spread}
use Rattle.table.proofs.write.spread.Given as goal

abbrev pub invariant-loop-i : goal.invariant-loop-i
invariant-loop-i l = Spread l.latencies l.bytes l.i
