-- The invariant: no receive under the key was passed, and p is on the chain.
use Rattle.chains.proofs.Search.{Backwards}
use Rattle.chains.proofs.prior_receive.Given as goal

abbrev pub invariant-loop-p : goal.invariant-loop-p
invariant-loop-p l = Backwards l.store l.key l.from l.p

abbrev pub decreases-loop-p : goal.decreases-loop-p
decreases-loop-p l = l.p
