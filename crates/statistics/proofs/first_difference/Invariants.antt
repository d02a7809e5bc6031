-- The records that are left come to what all come to.
use Rattle.std.proofs.Common.{length}
use Rattle.statistics.proofs.Comparing.{Comparing}
use Rattle.statistics.proofs.first_difference.Given as goal

abbrev pub invariant-loop-i : goal.invariant-loop-i
invariant-loop-i l = Comparing l.trace l.store (length l.initial.link) l.link l.counts l.times l.lengths l.heads l.i
