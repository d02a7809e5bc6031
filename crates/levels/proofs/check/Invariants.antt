-- The invariant: of each processor the last record and the last mark among the first i.
use Rattle.levels.proofs.Processors.{Going}
use Rattle.levels.proofs.check.Given as goal

abbrev pub invariant-loop-i : goal.invariant-loop-i
invariant-loop-i l = Going l.store l.listed l.i l.last l.mark
