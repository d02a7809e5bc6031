-- The loop's invariant is what was read and what is left.
use Rattle.quick.proofs.Takes.{Taking}
use Rattle.quick.proofs.body.values.Given as goal

abbrev pub invariant-loop-left : goal.invariant-loop-left
invariant-loop-left l = Taking l.form l.n l.s l.at l.a l.b l.c l.p l.left
