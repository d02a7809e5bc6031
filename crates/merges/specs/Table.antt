-- "Refusal 1 comes first, then 4 to 12 of the first trace, then of the second, then 18, line 0, if both hold a listed record of one
-- processor, then 16; each says which trace it means, 0 for neither": when each is given, with the trace, the line and the column.
use Rattle.std.specs.Prelude.{◌+◌, ◌≤◌, ◌<◌, ◌≡◌, length}
use Rattle.paper.specs.Numbers.{number_of}
use Rattle.paper.specs.Columns.{nowhere}
use Rattle.paper.specs.Merging.{Merging}
use Rattle.paper.specs.declared.Choice.{Choice}
use Rattle.paper.specs.declared.Fault.{Fault}
use Rattle.paper.specs.declared.Site.{Site}
use Rattle.paper.specs.declared.Which.{Which}
use Rattle.paper.specs.declared.Which.TheVariants.{Neither, First, Second}
use Rattle.demands.specs.Steps.{Read}
use Rattle.demands.specs.Table.{When}
use Rattle.merges.specs.Parts.{first, second, Both, Shared}

-- "4 to 12"
abbrev pub OfATrace : Fault → Type 0
OfATrace fault = (4 ≤ number_of fault) × (number_of fault ≤ 12)

pub data MergeWhen (i : Merging) : Fault → Which → Site → Type 0 where
  -- "choice is neither 1 (strict) nor 2 (lenient)"
  bad_choice : ¬ (i.choice ≡ 1) → ¬ (i.choice ≡ 2) → MergeWhen i Fault.BadChoice Neither nowhere
  -- a row of document 01's table, of the first trace judged by itself
  of_first : {fault : Fault} {s : Site} → OfATrace fault → When (first i) fault s → MergeWhen i fault First s
  -- the same of the second, where none of them is called for by the first
  of_second : {fault : Fault} {s : Site} (choice : Choice) → Read (first i) choice → OfATrace fault → When (second i) fault s
      → MergeWhen i fault Second s
  shared : (both : Both i) → Shared i both.choice → MergeWhen i Fault.SharedProcessor Neither nowhere
  no_room : (both : Both i) → ¬ Shared i both.choice → length i.room < length i.first + length i.second
      → MergeWhen i Fault.NoRoom Neither nowhere
