-- The invariant: the entries before i are done.
use lib.ListN.{length}
use Rattle.chains.specs.Chains.{Placing}
use Rattle.chains.proofs.place_sends.Given as goal

abbrev pub invariant-loop-i : goal.invariant-loop-i
invariant-loop-i l = Placing l.store (length l.initial.sends) l.sends l.link l.heads l.seen l.i
