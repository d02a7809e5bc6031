-- From each processor on, what is left gives the whole.
use Prim.Native.Nat.{◌-◌, ◌≤◌}
use mathlib.Core.Path.{◌≡◌}
use Rattle.paper.specs.Levels.{levels_from}
use Rattle.store.specs.Layout.{entries_in}
use Rattle.levels.proofs.first_off.Given as goal

abbrev pub invariant-loop-p : goal.invariant-loop-p
invariant-loop-p l = (l.p ≤ 64) × (levels_from l.asked (entries_in l.store l.listed) l.p (64 - l.p) ≡ levels_from l.asked (entries_in l.store l.listed) 0 64)
