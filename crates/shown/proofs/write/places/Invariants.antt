-- The loop's invariant: the power is that of k, and n is too large for fewer than k places.
use Prim.Native.Nat.{◌-◌, ◌^◌, ◌≤◌, ◌<◌}
use mathlib.Core.Path.{◌≡◌}
use Rattle.shown.proofs.write.places.Given as goal

abbrev pub invariant-loop-k : goal.invariant-loop-k
invariant-loop-k l = (l.power ≡ 10 ^ l.k) × (1 < l.k → 10 ^ (l.k - 1) ≤ l.n)
