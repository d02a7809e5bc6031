use Rattle.std.proofs.Common.{◌-◌, ◌≡◌, ◌≤◌, length}
use Rattle.listing.specs.Plan.{laid}
use Rattle.ffi.proofs.cantuvesh_messages.Given as goal

-- the first k places have their pairs, and the others are as they were
abbrev pub invariant-loop-k : goal.invariant-loop-k
invariant-loop-k l = (l.k ≤ l.n) × (l.n ≡ l.answer.filled) × (l.list ≡ laid l.numbers l.fn.list l.k) × (length l.list ≡ length l.fn.list)

abbrev pub decreases-loop-k : goal.decreases-loop-k
decreases-loop-k l = l.n - l.k
