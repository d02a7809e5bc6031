-- The invariant: the first i places are done, the others are as they were.
use lib.ListN.{length, get_or}
use Rattle.waits.proofs.Filling.{Filling}
use Rattle.steps.specs.Tables.{exact_at}
use Rattle.steps.proofs.Filling.{Left}
use Rattle.steps.proofs.keep_exact.Given as goal

abbrev pub invariant-loop-i : goal.invariant-loop-i
invariant-loop-i l = Filling 0 (λ k. exact_at l.times (get_or l.waits k 0) l.none k (get_or l.initial.table k 0)) (length l.initial.table) l.table l.i × Left l.initial.table l.table l.i
