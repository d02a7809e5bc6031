-- The parts of what a merging comes to, by name, and the checks that it passes.
use Rattle.std.specs.Prelude.{ℕ, ◌+◌, ◌≤◌, ◌<◌, ◌≡◌, false, List, [], length, take, replicate, pos}
use Rattle.paper.specs.Columns.{in_line}
use Rattle.paper.specs.Answer.{Inputs}
use Rattle.paper.specs.Merging.{Merging, merge}
use Rattle.paper.specs.declared.Choice.{Choice}
use Rattle.paper.specs.declared.Entry.{Entry}
use Rattle.paper.specs.declared.Site.{Site}
use Rattle.matching.specs.Belongs.{processor}
use Rattle.demands.specs.Steps.{Read, entries}

abbrev pub number : Merging → ℕ
number i = (merge i).answer.number

abbrev pub which : Merging → ℕ
which i = (merge i).answer.which

abbrev pub site : Merging → Site
site i = in_line (merge i).answer.line (merge i).answer.column

abbrev pub written : Merging → ℕ
written i = (merge i).answer.written

abbrev pub merged_trace : Merging → List ℕ
merged_trace i = take (written i) (merge i).room

-- ---- either trace by itself

-- a judging call on one trace that nothing is refused of before it: a table of zeros, the lent times, no levels asked for, no statistics
-- compared and no gap kept
unfoldable pub alone : ℕ → List ℕ → Inputs
alone choice s =
    record {
      trace = s;
      latencies = replicate 4096 0;
      asked = record { choice = choice; levels = 0; picl = pos 0; user = pos 0; trace = pos 0; statistics = 0; share = 0 };
      times = replicate 2048 (pos 0);
      wanted = false;
      room = [];
    }

abbrev pub first : Merging → Inputs
first i = alone i.choice i.first

abbrev pub second : Merging → Inputs
second i = alone i.choice i.second

-- neither is refused by 4 to 12
pub record Both (i : Merging) : Type 0 where
  pub choice : Choice
  pub reads_first : Read (first i) choice
  pub reads_second : Read (second i) choice

-- ---- "both hold a listed record of one processor"

abbrev pub HoldsOn : List Entry → ℕ → Type 0
HoldsOn es p = (k : ℕ) × (k < length es) × (processor es k ≡ p)

abbrev pub Shared : Merging → Choice → Type 0
Shared i choice = (p : ℕ) × HoldsOn (entries (first i) choice) p × HoldsOn (entries (second i) choice) p

-- ---- accepted

pub record Joins (i : Merging) : Type 0 where
  pub both : Both i
  pub apart : ¬ Shared i both.choice
  pub fits : length i.first + length i.second ≤ length i.room
