-- The statement of `read_trace` leaves one outcome: one answer, and one thing that the store holds.
use Prim.Native.Nat.{ℕ}
use mathlib.Core.Path.{◌≡◌, sym, ◌∙◌}
use mathlib.Core.List.{List}
use Rattle.paper.specs.declared.Choice.{Choice}
use Rattle.trace.specs.declared.Read.{Read}
use Rattle.trace.specs.Read.{ReadInto}

pub one_reading : {choice : Choice} {s store : List ℕ} {r q : Read} {a b : List ℕ} → ReadInto choice s store r a → ReadInto choice s store q b → (r ≡ q) × (a ≡ b)
one_reading p o = (p.answer ∙ sym o.answer, p.holds ∙ sym o.holds)
