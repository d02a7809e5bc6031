-- What is left to read gives, with the records put so far, the whole reading.
use Prim.Native.Nat.{◌-◌}
use lib.ListN.{length}
use Rattle.trace.specs.Going.{Going}
use Rattle.trace.proofs.ahead.lines.Given as goal

abbrev pub invariant-loop-at : goal.invariant-loop-at
invariant-loop-at l = Going l.choice l.s l.initial.store l.most l.store l.last l.listed l.passed l.at l.n

abbrev pub decreases-loop-at : goal.decreases-loop-at
decreases-loop-at l = length l.s - l.at
