-- What a quick answer says of the line that starts at a place of a trace: what it comes to, where the next line starts, and that the
-- line is ended.
use Rattle.std.specs.Prelude.{ℕ, ◌≤◌, ◌≡◌, List, Bool, length, Option, Some, None}
use Rattle.paper.specs.Line.{line_of}
use Rattle.paper.specs.declared.Choice.{Choice}
use Rattle.paper.specs.declared.Line.{Line}
use Rattle.reading.specs.Places.{line_at, next_line}
use Rattle.reading.specs.Rests.{fields_from, Ended}

pub record Here (choice : Choice) (s : List ℕ) (at : ℕ) (x : Line) (next : ℕ) : Type 0 where
  pub reads : x ≡ line_of choice (line_at s at)
  pub ends : next ≡ next_line s at
  pub near : next ≤ length s

unfoldable pub QuickAt : Choice → List ℕ → ℕ → Option (Line × ℕ) → Type 0
QuickAt choice s at (Some (x, next)) = Here choice s at x next
QuickAt choice s at None = Unit

-- the same of the rest of a line, behind its six fields
unfoldable pub RestAt : (Option (List ℕ) → Line) → List ℕ → Bool → ℕ → Option (Line × ℕ) → Type 0
RestAt there s ended at (Some (x, next)) = Ended x (there (fields_from s ended at)) s ended at next
RestAt there s ended at None = Unit
