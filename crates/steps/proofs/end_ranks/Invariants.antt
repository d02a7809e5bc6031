-- The invariant: the first i places are done.
use lib.ListN.{length}
use Rattle.paper.specs.Clock.{time_at}
use Rattle.waits.proofs.Filling.{Filling}
use Rattle.steps.specs.Tables.{end_rank}
use Rattle.steps.proofs.end_ranks.Given as goal

abbrev pub invariant-loop-i : goal.invariant-loop-i
invariant-loop-i l = Filling 0 (λ k. end_rank (time_at l.times k) (time_at l.originals k) l.none) (length l.initial.ranks) l.ranks l.i
