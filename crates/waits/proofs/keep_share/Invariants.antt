-- The invariant: the first i gaps are there.
use lib.ListN.{length, get_or}
use Rattle.paper.specs.Matching.{gap_from}
use Rattle.store.specs.Layout.{entries_in}
use Rattle.engine.specs.Promise.{place}
use Rattle.waits.proofs.Filling.{Filling}
use Rattle.waits.proofs.keep_share.Given as goal

abbrev pub invariant-loop-i : goal.invariant-loop-i
invariant-loop-i l = Filling 0 (λ k. gap_from l.share (entries_in l.store (length l.initial.out)) k (place (length l.initial.out) (get_or l.before k 0))) (length l.initial.out) l.out l.i
