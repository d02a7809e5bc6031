-- What the parts of the code leave.
use Rattle.std.specs.Prelude.{ℕ, ◌+◌, ◌≤◌, ◌≡◌, List, take}
use Rattle.named.specs.Parts.{cut, Within}
use Rattle.named.specs.declared.Span.{Span}
use Rattle.named.specs.declared.Name.{Name}
use Rattle.named.specs.declared.Name.TheVariants.{Choice, Trace, Table, Levels, Statistics, Share, Out}

-- as much of a span as the line has and as is shown
pub record ShownPart (line : List ℕ) (span part : Span) : Type 0 where
  pub is : cut line part ≡ take 200 (cut line span)
  pub within : Within line part
  pub short : part.to ≤ part.from + 200

-- where a name stands among all of them, written one behind the other
unfoldable pub place_of : Name → Span
place_of Choice = record { from = 0; to = 8 }
place_of Trace = record { from = 8; to = 15 }
place_of Table = record { from = 15; to = 22 }
place_of Levels = record { from = 22; to = 30 }
place_of Statistics = record { from = 30; to = 42 }
place_of Share = record { from = 42; to = 49 }
place_of Out = record { from = 49; to = 54 }
