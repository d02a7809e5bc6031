-- The invariant: the first i originals are there.
use lib.ListN.{length}
use lib.IntN.{pos}
use Rattle.store.specs.Layout.{entries_in}
use Rattle.waits.specs.Tables.{original_at}
use Rattle.waits.proofs.Filling.{Filling}
use Rattle.waits.proofs.originals_into.Given as goal

abbrev pub invariant-loop-i : goal.invariant-loop-i
invariant-loop-i l = Filling (pos 0) (original_at (entries_in l.store (length l.initial.out))) (length l.initial.out) l.out l.i
