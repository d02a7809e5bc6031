-- The statement leaves one answer.
use Rattle.std.specs.Prelude.{Result}
use Prim.Native.Nat.{ℕ}
use mathlib.Core.Path.{◌≡◌, sym, ◌∙◌}
use mathlib.Core.List.{List}
use lib.IntN.{ℤ}
use Rattle.paper.specs.Line.{values_in}
use Rattle.field.specs.Cursor.{rest_at}
use Rattle.paper.specs.declared.Data.{Data}

pub one_data : (l : List ℕ) (at : ℕ) (kind : ℤ) (count : ℕ) (r q : Result Data ℕ) → r ≡ values_in kind count (rest_at l at) → q ≡ values_in kind count (rest_at l at) → r ≡ q
one_data l at kind count r q e f = e ∙ sym f
