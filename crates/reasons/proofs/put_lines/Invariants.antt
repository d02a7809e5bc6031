use lib.ListN.{length}
use Rattle.store.specs.Layout.{entries_in}
use Rattle.reasons.proofs.Going.{Going}
use Rattle.reasons.proofs.put_lines.Given as goal

abbrev pub invariant-loop-k : goal.invariant-loop-k
invariant-loop-k l = Going (entries_in l.store (length l.times)) l.times l.before l.gap l.latency l.chain l.initial.room l.room l.at l.k
