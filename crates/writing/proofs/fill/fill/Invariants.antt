-- The bytes up to the last stamp are stored at the start of the room.
use Prim.Native.Nat.{◌-◌}
use lib.ListN.{length}
use Rattle.writing.proofs.Filling.{Filling}
use Rattle.writing.proofs.fill.fill.Given as goal

abbrev pub invariant-loop-k : goal.invariant-loop-k
invariant-loop-k l = Filling l.s l.store l.times l.initial.room l.room l.from l.to l.k

abbrev pub decreases-loop-k : goal.decreases-loop-k
decreases-loop-k l = length l.times - l.k
