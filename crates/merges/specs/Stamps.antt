-- "at each step the line with the smaller timestamp goes next": what the timestamp is by which a line is merged, for any bytes without LF.
use Rattle.std.specs.Prelude.{ℕ, ◌≡◌, List, Option, Some}
use Rattle.paper.specs.Forms.{time_of}
use Rattle.paper.specs.Line.{field, after, line_of}
use Rattle.paper.specs.Merging.{stamp_of}
use Rattle.paper.specs.declared.Choice.{Choice}
use Rattle.paper.specs.declared.Fault.{Fault}
use Rattle.paper.specs.declared.Line.TheVariants.{Refused, Listed}
use Rattle.paper.specs.declared.Record.{Record}

-- by 5 to 10, wherever it stands
abbrev pub RefusedLine : Choice → List ℕ → Type 0
RefusedLine choice l = (fault : Fault) × (spot : Option ℕ) × (line_of choice l ≡ Refused fault spot)

pub record Stamped (choice : Choice) (l : List ℕ) : Type 0 where
  -- of a listed line it is its record's time
  pub listed : (r : Record) → line_of choice l ≡ Listed r → stamp_of l ≡ r.time
  -- and of every line that is not refused, listed or passed over, it is what its third field is in the form of a time
  pub third : ¬ RefusedLine choice l → time_of (field (after (after l))) ≡ Some (stamp_of l)
