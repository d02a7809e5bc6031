use Prim.Native.Nat.{◌+◌, ◌-◌}
use lib.ListN.{length}
use Rattle.merging.proofs.Weaving.{Going}
use Rattle.merging.proofs.weave.weave.Given as goal

abbrev pub invariant-loop-a : goal.invariant-loop-a
invariant-loop-a l = Going l.first l.second l.initial.room l.room l.a l.b

abbrev pub decreases-loop-a : goal.decreases-loop-a
decreases-loop-a l = length l.first - l.a.from + (length l.second - l.b.from)
