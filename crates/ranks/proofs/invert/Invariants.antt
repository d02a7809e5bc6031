-- The invariant: the first i steps are turned round.
use Rattle.ranks.proofs.Inverse.{Inverting}
use Rattle.ranks.proofs.invert.Given as goal

abbrev pub invariant-loop-i : goal.invariant-loop-i
invariant-loop-i l = Inverting l.table l.into l.i
