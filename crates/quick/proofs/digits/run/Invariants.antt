-- The loop's invariant is the digits up to i.
use Rattle.quick.proofs.Runs.{Going}
use Rattle.quick.proofs.digits.run.Given as goal

abbrev pub invariant-loop-i : goal.invariant-loop-i
invariant-loop-i l = Going l.s l.at l.i l.value
