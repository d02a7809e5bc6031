-- One round: each turn fills a place, and the number of those that moved tells whether the times so far stayed.
use Prim.Native.Nat.{◌≤◌}
use lib.Dec.{eqb}
use Rattle.engine.specs.Inner.{following}
use Rattle.engine.proofs.Turning.{Turning}
use Rattle.engine.proofs.round.Given as goal

abbrev pub invariant-loop-i : goal.invariant-loop-i
invariant-loop-i l = (l.moved ≤ l.i) × Turning (following l.waits.before.now l.waits.gap.now l.waits.send.now l.waits.latency.now) l.from l.to (eqb l.moved 0) l.i
