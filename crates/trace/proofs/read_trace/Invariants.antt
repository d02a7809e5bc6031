-- What is left to read gives, with the records put so far, the whole reading.
use Prim.Native.Nat.{ℕ, ◌-◌}
use mathlib.Core.List.{List}
use lib.ListN.{length}
use Rattle.trace.specs.Going.{Going}
use Rattle.trace.proofs.read_trace.Given as goal

-- The loop starts from what `lines` leaves, whatever the store held before.
abbrev pub invariant-loop-at : goal.invariant-loop-at
invariant-loop-at l = (store₀ : List ℕ) → Going l.choice l.s store₀ l.most l.initial.store l.initial.last l.initial.listed l.initial.passed l.initial.at l.initial.n → Going l.choice l.s store₀ l.most l.store l.last l.listed l.passed l.at l.n

abbrev pub decreases-loop-at : goal.decreases-loop-at
decreases-loop-at l = length l.s - l.at
