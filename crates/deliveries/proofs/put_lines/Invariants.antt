use lib.ListN.{length}
use Rattle.paper.specs.Clock.{time_at}
use Rattle.store.specs.Layout.{entries_in}
use Rattle.deliveries.proofs.Going.{Going}
use Rattle.deliveries.proofs.put_lines.Given as goal

abbrev pub invariant-loop-i : goal.invariant-loop-i
invariant-loop-i l = Going (entries_in l.store (length l.times)) (time_at l.times) l.sends l.initial.room l.room l.at l.i
