-- Behind so many fields, what is left of k counts from the cursor on.
use Prim.Native.Nat.{◌-◌}
use Rattle.begins.proofs.Spaces.{Left}
use Rattle.begins.proofs.begin_of.Given as goal

abbrev pub invariant-loop : goal.invariant-loop
invariant-loop l = Left l.l l.k (l.k - l.counter) l.at
