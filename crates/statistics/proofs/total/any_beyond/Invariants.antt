-- The invariant: the records before place i are held.
use Rattle.statistics.specs.Ready.{AllHeld}
use Rattle.statistics.proofs.total.any_beyond.Given as goal

abbrev pub invariant-loop-i : goal.invariant-loop-i
invariant-loop-i l = AllHeld l.store l.i
