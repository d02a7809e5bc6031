-- The invariant: from whatever ranks the records were sown, the steps are gone back as far as the
-- queue's head.
use Prim.Native.Nat.{ℕ, ◌-◌}
use mathlib.Core.List.{List}
use lib.ListN.{length}
use Rattle.ranks.specs.Inner.{Seeded}
use Rattle.ranks.proofs.Spreading.{Spread}
use Rattle.ranks.proofs.spread.Steps.spread.Given as goal

abbrev pub invariant-loop-head : goal.invariant-loop-head
invariant-loop-head l = (before : List ℕ) → Seeded (length l.initial.ranks) before (length l.initial.ranks) l.initial.ranks l.initial.queue l.seeds → Spread (length l.initial.ranks) l.self.first.now l.self.second.now before l.head l.ranks l.queue l.tail

abbrev pub decreases-loop-head : goal.decreases-loop-head
decreases-loop-head l = length l.initial.ranks - l.head
