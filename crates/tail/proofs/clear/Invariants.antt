-- As long as there is no hit there is no LF.
use Prim.Native.Nat.{◌+◌}
use mathlib.Core.Bool.{false}
use mathlib.Core.Path.{◌≡◌}
use Rattle.tail.specs.Ends.{Clear}
use Rattle.tail.proofs.clear.Given as goal

abbrev pub invariant-loop-j : goal.invariant-loop-j
invariant-loop-j l = l.hit ≡ false → Clear l.s l.at (l.at + l.j)
