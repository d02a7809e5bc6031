-- What the answer says of the end of the line in which the cursor stands, and what the inner functions tell each other.
use Rattle.std.specs.Prelude.{ℕ, ◌+◌, ◌≤◌, ◌≡◌, List, Bool, true, length, drop, Option, Some, None}
use Rattle.octets.specs.Octets.{index_of}
use Rattle.paper.specs.Line.{good_end}
use Rattle.reading.specs.Rests.{fields_from, Ended}

unfoldable pub EndsAt : List ℕ → Bool → ℕ → ℕ → Option ℕ → Type 0
EndsAt s ended at n (Some next) = Ended true (good_end n (fields_from s ended at)) s ended at next
EndsAt s ended at n None = Unit

-- no LF between two places
pub record Clear (s : List ℕ) (at to : ℕ) : Type 0 where
  pub index : at + index_of 10 (drop at s) ≡ to + index_of 10 (drop to s)
  pub low : at ≤ to
  pub high : to ≤ length s
