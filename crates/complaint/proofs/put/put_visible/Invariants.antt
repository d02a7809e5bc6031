-- What stands before place i is visible, and the rest is as it was.
use Prim.Native.Nat.{◌+◌}
use lib.ListN.{take}
use Rattle.report.specs.Put.{Put}
use Rattle.complaint.specs.Complaint.{all_visible}
use Rattle.complaint.proofs.put.put_visible.Given as goal

abbrev pub invariant-loop-i : goal.invariant-loop-i
invariant-loop-i l = Put l.initial.room l.at (all_visible (take l.i l.word)) (l.at + l.i) l.room
