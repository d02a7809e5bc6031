-- What an accepted merging leaves in the room, and what reading it comes to.
use Rattle.std.specs.Prelude.{ℕ, ◌+◌, ◌≤◌, ◌<◌, ◌≡◌, ◌↔◌, [], length, drop, Ok}
use Rattle.paper.specs.Reading.{lines_of, read_of}
use Rattle.paper.specs.Answer.{Inputs, given, most, longest}
use Rattle.paper.specs.Merging.{Merging, merged_bytes, join, merge}
use Rattle.paper.specs.declared.Choice.{Choice}
use Rattle.paper.specs.declared.Tally.{Tally}
use Rattle.paper.specs.declared.Joined.{Joined}
use Rattle.reading.specs.Joined.{line_count}
use Rattle.reading.specs.Mixed.{Mixed}
use Rattle.demands.specs.Parts as judged
use Rattle.demands.specs.Steps.{Chosen, RightSizes, LowLatencies, Begun, reading, entries}
use Rattle.merges.specs.Parts.{written, merged_trace, first, second}

-- ---- how many lines of either are listed and passed over

abbrev pub listed_in : Inputs → Choice → ℕ
listed_in j choice = length (entries j choice)

abbrev pub passed_in : Inputs → Choice → ℕ
passed_in j choice = (reading j choice).state.passed

abbrev pub listed_of_both : Merging → Choice → ℕ
listed_of_both i choice = listed_in (first i) choice + listed_in (second i) choice

abbrev pub passed_of_both : Merging → Choice → ℕ
passed_of_both i choice = passed_in (first i) choice + passed_in (second i) choice

-- ---- what is told beside the answer

-- of one of the two by itself
pub record TallyOf (j : Inputs) (choice : Choice) (t : Tally) : Type 0 where
  pub listed : t.listed ≡ listed_in j choice
  pub passed : t.passed ≡ passed_in j choice

-- of what they are merged into, and of either
pub record ToldOf (i : Merging) (choice : Choice) (all : Joined) : Type 0 where
  pub lines : all.lines ≡ line_count (lines_of (merged_trace i))
  pub bytes : all.written ≡ length i.first + length i.second
  pub of_first : TallyOf (first i) choice all.first
  pub of_second : TallyOf (second i) choice all.second

-- ---- the merged bytes read

-- by themselves, with room for as many records as there are
pub record ReadsWhole (i : Merging) (choice : Choice) (limit : ℕ) : Type 0 where
  pub ends : (read_of choice limit (merged_trace i)).stop ≡ Ok tt
  pub lists : length (read_of choice limit (merged_trace i)).entries ≡ listed_of_both i choice
  pub passes : (read_of choice limit (merged_trace i)).state.passed ≡ passed_of_both i choice

-- j judges the merged bytes under the same choice
pub record Judges (i : Merging) (j : Inputs) : Type 0 where
  pub trace : j.trace ≡ merged_trace i
  pub choice : j.asked.choice ≡ i.choice

-- ---- accepted

pub record MergedTrace (i : Merging) (choice : Choice) : Type 0 where
  -- "at each step the line with the smaller timestamp goes next, the first trace's where equal"
  pub bytes : merged_trace i ≡ merged_bytes i.first i.second
  -- "Every line appears once and each trace's own order stays."
  pub lines : Mixed (lines_of i.first) (lines_of i.second) (lines_of (merged_trace i))
  -- the merged length is the sum, and the room behind the merged bytes stays
  pub long : written i ≡ length i.first + length i.second
  pub places : length (merge i).room ≡ length i.room
  pub after : drop (written i) (merge i).room ≡ drop (written i) i.room
  -- what is told beside the answer
  pub told : (all : Joined) → (join i).joint ≡ Ok all → ToldOf i choice all
  -- merging with an empty trace gives the other's bytes
  pub first_empty : i.first ≡ [] → merged_trace i ≡ i.second
  pub second_empty : i.second ≡ [] → merged_trace i ≡ i.first
  -- "All else, and 4, 12 and demand 3, is for the reading of the merged bytes": as many are listed and passed over as of the two together,
  pub reads : (limit : ℕ) → listed_of_both i choice ≤ limit → ReadsWhole i choice limit
  -- none of 5 to 11 is given,
  pub no_bad_line : (j : Inputs) → Judges i j → ¬ ((5 ≤ judged.number j) × (judged.number j ≤ 11))
  -- 4 exactly if the two together are above the limit, where 1 to 3 are not called for,
  pub too_long : (j : Inputs) → Judges i j → Chosen j choice → RightSizes j → LowLatencies j
      → (judged.number j ≡ 4) ↔ (longest < length i.first + length i.second)
  -- and 12 exactly if they list too many, where 1 to 4 are not called for
  pub too_many_lem : (j : Inputs) → Judges i j → Begun j choice → (judged.number j ≡ 12) ↔ (most (given j) < listed_of_both i choice)
