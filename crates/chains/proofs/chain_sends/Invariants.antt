-- The invariant: the sends from i on are chained.
use lib.ListN.{length}
use Rattle.chains.specs.Chains.{Chained}
use Rattle.chains.proofs.chain_sends.Given as goal

abbrev pub invariant-loop-i : goal.invariant-loop-i
invariant-loop-i l = Chained l.store (length l.initial.link) l.link l.heads l.i
