-- The loop's invariant: the latencies before i stand, and the bytes from 4 * i on give the others.
use Rattle.table.proofs.Turns.{Filled}
use Rattle.table.proofs.fill.Given as goal

abbrev pub invariant-loop-i : goal.invariant-loop-i
invariant-loop-i l = Filled l.bytes l.latencies l.i
