-- The loop's invariant is what is left.
use Rattle.quick.proofs.Paired.{Pairing}
use Rattle.quick.proofs.pairs.pairs.Given as goal

abbrev pub invariant-loop-left : goal.invariant-loop-left
invariant-loop-left l = Pairing l.form l.n l.s l.at l.p l.left
