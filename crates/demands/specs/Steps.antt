-- How far a call comes: the checks that it passes, in document 01's order, with 17 and then 19 between the lines and 13.
use Rattle.std.specs.Prelude.{ℕ, ◌≤◌, ◌<◌, ◌≡◌, ◌⊎◌, List, length, get_or, ℤ, Some, Ok}
use Rattle.paper.specs.Reading.{Reading, read_of}
use Rattle.paper.specs.Levels.{levels_of}
use Rattle.paper.specs.Statistics.{statistics_of}
use Rattle.paper.specs.Matching.{entry_at, matched_of, waits_of}
use Rattle.paper.specs.Clock.{Waits, settle, settled}
use Rattle.paper.specs.Answer.{Inputs, given, most, longest, heard, written}
use Rattle.paper.specs.declared.Asked.{Asked}
use Rattle.paper.specs.declared.Choice.{Choice}
use Rattle.paper.specs.declared.Entry.{Entry}

-- ---- "1 to 4", each where it passes

abbrev pub Chosen : Inputs → Choice → Type 0
Chosen i choice = heard i.asked ≡ Some choice

-- and where 1 does not pass: "choice is neither 1 (strict) nor 2 (lenient)", or the levels are neither "0 for off .. or 1 for on", or the
-- statistics neither "0 for off or 1 for on"
abbrev pub Unheard : Asked → Type 0
Unheard a =
    ((¬ (a.choice ≡ 1)) × (¬ (a.choice ≡ 2)))
    ⊎ (((¬ (a.levels ≡ 0)) × (¬ (a.levels ≡ 1))) ⊎ ((¬ (a.statistics ≡ 0)) × (¬ (a.statistics ≡ 1))))

-- a table and times of the right length, and of the share: "A share above 1,000 is refusal 2"
abbrev pub RightSizes : Inputs → Type 0
RightSizes i = (length i.latencies ≡ 4096) × (length i.times ≡ most (given i)) × (i.asked.share ≤ 1000)

abbrev pub LowLatencies : Inputs → Type 0
LowLatencies i = (k : ℕ) → k < length i.latencies → get_or i.latencies k 0 ≤ 1000000

abbrev pub ShortTrace : Inputs → Type 0
ShortTrace i = length i.trace ≤ longest

pub record Begun (i : Inputs) (choice : Choice) : Type 0 where
  pub chosen : Chosen i choice
  pub sizes : RightSizes i
  pub low : LowLatencies i
  pub short : ShortTrace i

-- ---- "then line by line"

abbrev pub reading : Inputs → Choice → Reading
reading i choice = read_of choice (most (given i)) i.trace

-- the listed records in file order
abbrev pub entries : Inputs → Choice → List Entry
entries i choice = (reading i choice).entries

-- of the record at place k, k counted from 0
abbrev pub original : List Entry → ℕ → ℤ
original es k = (entry_at es k).body.time

-- no line is refused
pub record Read (i : Inputs) (choice : Choice) : Type 0 where
  pub begun : Begun i choice
  pub whole : (reading i choice).stop ≡ Ok tt

-- ---- "After the lines are read, and before 13, refuse with 17"

-- no processor calls for it
pub record Levelled (i : Inputs) (choice : Choice) : Type 0 where
  pub read : Read i choice
  pub levels : levels_of i.asked (entries i choice) ≡ Ok tt

-- ---- "after the line checks and 17, before 13", 19

-- no statistics line calls for it
pub record Compared (i : Inputs) (choice : Choice) : Type 0 where
  pub levelled : Levelled i choice
  pub agree : statistics_of i.asked i.trace (entries i choice) ≡ Ok tt

-- ---- "then the first receive .. that calls for 13 or 14"

-- no receive does
pub record Matched (i : Inputs) (choice : Choice) : Type 0 where
  pub compared : Compared i choice
  pub matches : matched_of (entries i choice) ≡ Ok tt

-- ---- "then 15; then 16"

-- what the records wait for
abbrev pub waits : Inputs → Choice → Waits
waits i choice = waits_of i.asked.share i.latencies (entries i choice)

-- the times, and room for the written trace where it is asked for
pub record Accepted (i : Inputs) : Type 0 where
  pub choice : Choice
  pub rounds : ℕ
  pub times : List ℤ
  pub matched : Matched i choice
  pub settles : settle (waits i choice) ≡ settled rounds times
  pub room : length (written i choice times) ≤ length i.room
