-- The words that are left give, with what was given, the whole.
use Prim.Native.Nat.{◌-◌}
use lib.ListN.{length}
use Rattle.flags.proofs.Pairs.{Going}
use Rattle.flags.proofs.planned.Given as goal

abbrev pub invariant-loop-at : goal.invariant-loop-at
invariant-loop-at l = Going l.separator l.line l.given l.at

abbrev pub decreases-loop-at : goal.decreases-loop-at
decreases-loop-at l = length l.line - l.at
