-- The data that are left from the cursor on, with their first field's number, come to what all come to.
use Prim.Native.Nat.{◌+◌, ◌-◌, ◌≤◌}
use mathlib.Core.Path.{◌≡◌}
use Rattle.paper.specs.Line.{values_of, as_others}
use Rattle.field.specs.Cursor.{rest_at, read_as}
use Rattle.values.proofs.others.Given as goal

abbrev pub invariant-loop-i : goal.invariant-loop-i
invariant-loop-i l = (l.i ≤ l.n) × (as_others (values_of (read_as l.form) 7 l.n (rest_at l.l l.at)) ≡ as_others (values_of (read_as l.form) (7 + l.i) (l.n - l.i) (rest_at l.l l.p)))
