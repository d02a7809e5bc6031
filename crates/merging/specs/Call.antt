-- The calls: what they are given, and what they leave.
use Rattle.std.specs.Prelude.{ℕ, ◌≤◌, List, length, Result}
use Rattle.paper.specs.Answer.{longest}
use Rattle.paper.specs.Reading.{lines_of}
use Rattle.paper.specs.Merging.{Merging, Mergence, MergeOutcome, lines_in}
use Rattle.paper.specs.declared.Merged.{Merged}
use Rattle.paper.specs.declared.Tally.{Tally}
use Rattle.reading.specs.Joined.{AllEnded}
use Rattle.paper.specs.declared.Unmerged.{Unmerged}
use Rattle.paper.specs.declared.Joined.{Joined}

abbrev pub merging : (first second : List ℕ) → ℕ → List ℕ → Merging
merging first second choice room = record { first = first; second = second; choice = choice; room = room }

abbrev pub mergence : Result Joined Unmerged → List ℕ → Mergence
mergence joint room = record { joint = joint; room = room }

abbrev pub outcome : Merged → List ℕ → MergeOutcome
outcome answer room = record { answer = answer; room = room }

-- what is known of a trace that 4 to 12 do not refuse, and of which this was counted
pub record Counted (s : List ℕ) (t : Tally) : Type 0 where
  pub whole : AllEnded (lines_of s)
  pub short : length s ≤ longest
  pub few : lines_in t ≤ length s
