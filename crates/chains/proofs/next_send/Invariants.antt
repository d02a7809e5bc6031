-- The invariant: no send under the key was passed, and s is on the chain.
use Prim.Native.Nat.{◌-◌}
use lib.ListN.{length}
use Rattle.chains.proofs.Search.{Forwards}
use Rattle.chains.proofs.next_send.Given as goal

abbrev pub invariant-loop-s : goal.invariant-loop-s
invariant-loop-s l = Forwards l.store l.link l.key l.at l.s

abbrev pub decreases-loop-s : goal.decreases-loop-s
decreases-loop-s l = length l.link - l.s
