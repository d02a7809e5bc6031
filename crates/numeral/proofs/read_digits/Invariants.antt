-- The loop's invariant: what is left of s, read behind the value so far, gives the whole answer; and that value, before another digit,
-- is no more than a tenth of 2 ^ 63.
use Prim.Native.Nat.{◌≤◌}
use mathlib.Core.Path.{◌≡◌}
use lib.ListN.{drop}
use Rattle.paper.specs.Forms.{digits_from}
use Rattle.numeral.proofs.read_digits.Given as goal

abbrev pub invariant-loop-b : goal.invariant-loop-b
invariant-loop-b l = (l.value ≤ 9223372036854775809) × (digits_from 0 l.s ≡ digits_from l.value (drop l.b-index l.s))
