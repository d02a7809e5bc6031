-- The loop's invariant: what is left of s, read behind the value so far, gives the whole answer; and that value is below
-- 10 ^ (9 + the number of digits read).
use Prim.Native.Nat.{◌+◌, ◌^◌, ◌<◌}
use mathlib.Core.Path.{◌≡◌}
use lib.ListN.{drop}
use Rattle.paper.specs.Forms.{digits_from}
use Rattle.form.proofs.read.read_digits.Given as goal

abbrev pub invariant-loop-b : goal.invariant-loop-b
invariant-loop-b l = (l.value < 10 ^ (9 + l.b-index)) × (digits_from l.v l.s ≡ digits_from l.value (drop l.b-index l.s))
