-- The invariant: the first i places are there, and of each processor its last place.
use lib.ListN.{length}
use Rattle.store.specs.Layout.{entries_in}
use Rattle.waits.specs.Tables.{before_at}
use Rattle.waits.proofs.Filling.{Filling}
use Rattle.waits.proofs.Last.{Lasts}
use Rattle.waits.proofs.befores_into.Given as goal

abbrev pub invariant-loop-i : goal.invariant-loop-i
invariant-loop-i l = Filling 0 (before_at (entries_in l.store (length l.initial.out))) (length l.initial.out) l.out l.i × Lasts (entries_in l.store (length l.initial.out)) l.i l.last
