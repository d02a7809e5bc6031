use Prim.Native.Nat.{◌≤◌}
use lib.ListN.{length}
use Rattle.rollout.proofs.join.arguments.Given as goal

abbrev pub invariant-loop-k : goal.invariant-loop-k
invariant-loop-k g l = l.at ≤ length l.line
