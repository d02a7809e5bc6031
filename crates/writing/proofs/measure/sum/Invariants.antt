-- The stamps so far, and what is left.
use Prim.Native.Nat.{◌-◌}
use lib.ListN.{length}
use Rattle.writing.proofs.Sums.{Summing}
use Rattle.writing.proofs.measure.sum.Given as goal

abbrev pub invariant-loop-k : goal.invariant-loop-k
invariant-loop-k l = Summing l.s l.store l.times l.from l.gained l.lost l.k

abbrev pub decreases-loop-k : goal.decreases-loop-k
decreases-loop-k l = length l.times - l.k
