-- The loop's invariant is the bytes stepped over.
use Prim.Native.Nat.{◌-◌}
use lib.ListN.{length}
use Rattle.tail.specs.Ends.{Clear}
use Rattle.tail.proofs.skip.Given as goal

abbrev pub invariant-loop-i : goal.invariant-loop-i
invariant-loop-i l = Clear l.s l.at l.i

abbrev pub decreases-loop-i : goal.decreases-loop-i
decreases-loop-i l = length l.s - l.i
