-- The statement of `planned` leaves one outcome: what the plan means.
use Rattle.std.specs.Prelude.{Result}
use Prim.Native.Nat.{ℕ}
use mathlib.Core.Path.{◌≡◌, sym, ◌∙◌}
use mathlib.Core.List.{List}
use Rattle.flags.specs.Plan.{Meant}
use Rattle.flags.specs.Spans.{plan_in, Planned}
use Rattle.flags.specs.declared.Lack.{Lack}
use Rattle.flags.specs.declared.Wishes.{Wishes}

-- two plans that are allowed mean the same on the line
pub one_plan : {line : List ℕ} {meant : Meant} {p q : Result Wishes Lack} → Planned line meant p → Planned line meant q → plan_in line p ≡ plan_in line q
one_plan x y = x.is ∙ sym y.is
