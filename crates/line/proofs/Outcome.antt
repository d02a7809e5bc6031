-- The statement of `read_line` leaves one answer, and that of `quick_line` one besides doubt.
use Rattle.std.specs.Prelude.{Some, Option}
use Prim.Native.Nat.{ℕ}
use mathlib.Core.Path.{◌≡◌, sym, ◌∙◌}
use mathlib.Core.List.{List}
use Rattle.paper.specs.declared.Choice.{Choice}
use Rattle.paper.specs.declared.Line.{Line}
use Rattle.paper.specs.Line.{line_of}
use Rattle.line.specs.Quick.{QuickAt}

pub one_line : (choice : Choice) (l : List ℕ) (r q : Line) → r ≡ line_of choice l → q ≡ line_of choice l → r ≡ q
one_line choice l r q e f = e ∙ sym f

pub one_quick : (choice : Choice) (s : List ℕ) (at : ℕ) (x y : Line) (n m : ℕ) → QuickAt choice s at (Some (x, n)) → QuickAt choice s at (Some (y, m))
    → ◌≡◌ {A = Option (Line × ℕ)} (Some (x, n)) (Some (y, m))
unfolding QuickAt
one_quick choice s at x y n m e f = rw (e.reads, f.reads, e.ends, f.ends)
