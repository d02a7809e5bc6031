-- Row 19, of the eighth change request: the statistics lines "with event field -1 are compared, pair by pair, with that processor's earlier
-- records of the pair's event at original times .. A difference is refusal 19 at the first statistics line in the file that has one, after
-- the line checks and 17, before 13."
use Rattle.std.specs.Prelude.{ℕ, ◌+◌, ◌-◌, ◌<◌, ◌≡◌, ◌⊎◌, List, length, take, get_or, ℤ, pos, nat_abs, ◌-ℤ◌, Option}
use Rattle.paper.specs.Tests.{minus}
use Rattle.paper.specs.Events.{standing_of}
use Rattle.paper.specs.Line.{six, head_of, pairs, pairs_for}
use Rattle.paper.specs.Matching.{entry_at}
use Rattle.paper.specs.Reading.{done, lines_of}
use Rattle.paper.specs.Statistics.{is_of, marks_of, entries_of, exits_of, spent, lengths_if, line_in, pairs_in}
use Rattle.paper.specs.Answer.{Inputs}
use Rattle.paper.specs.declared.Asked.{Asked}
use Rattle.paper.specs.declared.Entry.{Entry}
use Rattle.paper.specs.declared.Head.{Head}
use Rattle.paper.specs.declared.Standing.TheVariants as Standing
use Rattle.demands.specs.Before.{ComesTo}
use Rattle.demands.specs.Levels.{AtLevels}

-- ---- a pair, an event and what is told of it, after these records, of which those of a processor are looked at

-- "volume of -21, -51 or -52 is the sum of its sends' or receives' lengths", which are its entries or its exits: by the event the record type
-- of these. "any other volume [isn't] compared"
pub data VolumeOver (event : ℤ) : ℤ → Type 0 where
  of_sends : event ≡ minus 21 → VolumeOver event (minus 3)
  of_receives : (event ≡ minus 51) ⊎ (event ≡ minus 52) → VolumeOver event (minus 4)

module _ (es : List Entry) (p : ℕ) (event told : ℤ) where
  -- "count is entries plus marks"; "a count .. of -1 .. [isn't] compared"
  pub record CountDiffers : Type 0 where
    pub measured : ¬ (told ≡ minus 1)
    pub other : ¬ (told ≡ pos (entries_of es p event + marks_of es p event))

  -- "time is the sum of exits less the sum of entries, within one microsecond for each entry, and only where they are equally many"; "a time
  -- of -1.000000 .. [isn't] compared"
  pub record TimeDiffers : Type 0 where
    pub measured : ¬ (told ≡ minus 1000000)
    pub equally_many : entries_of es p event ≡ exits_of es p event
    pub beyond : entries_of es p event < nat_abs (told -ℤ spent es p event)

  -- "a .. volume of -1 .. [isn't] compared"
  pub record VolumeDiffers : Type 0 where
    pub measured : ¬ (told ≡ minus 1)
    pub kind : ℤ
    pub over : VolumeOver event kind
    pub other : ¬ (told ≡ pos (lengths_if (is_of kind event p) es))

  -- "-101 (times), -102 (counts) and -103 (volumes)"
  pub data ToldDiffers : ℤ → Type 0 where
    by_time : TimeDiffers → ToldDiffers (minus 101)
    by_count : CountDiffers → ToldDiffers (minus 102)
    by_volume : VolumeDiffers → ToldDiffers (minus 103)

pub record PairDiffers (kind : ℤ) (es : List Entry) (p : ℕ) (pair : ℤ × ℤ) : Type 0 where
  -- "A pair whose event isn't listed .. [isn't] compared"
  pub listed : (standing_of pair.0 ≡ Standing.Listed) ⊎ (standing_of pair.0 ≡ Standing.Message)
  pub differs : ToldDiffers es p pair.0 pair.1 kind

-- ---- a line

-- the line that the record at place k stands on, "Lines count from 1.", and its pairs
abbrev pub line_at : List ℕ → List Entry → ℕ → List ℕ
line_at trace es k = line_in (lines_of trace) ((entry_at es k).line - 1)

abbrev pub pairs_at : List ℕ → List Entry → ℕ → List (ℤ × ℤ)
pairs_at trace es k = pairs_in (line_at trace es k)

-- of a statistics record: they are all that its line states
pub record AllPairs (trace : List ℕ) (es : List Entry) (k : ℕ) : Type 0 where
  pub head : Head
  pub fields : Option (List ℕ)
  pub good : head_of (line_at trace es k) ≡ six head fields
  pub kind : head.kind ≡ (entry_at es k).body.kind
  pub all : pairs_for head.kind head.count fields ≡ pairs (pairs_at trace es k)

-- one of the pairs differs
pub record LineDiffers (trace : List ℕ) (es : List Entry) (k : ℕ) : Type 0 where
  -- "Those with event field -1 are compared"
  pub event : (entry_at es k).body.event ≡ minus 1
  -- "pair by pair"
  pub pair : ℕ
  pub within : pair < length (pairs_at trace es k)
  -- "with that processor's earlier records"
  pub differs : PairDiffers (entry_at es k).body.kind (take k es) (entry_at es k).body.processor (get_or (pairs_at trace es k) pair (pos 0, pos 0))

-- ---- all lines

-- it is "1 for on", and this is "the first statistics line in the file that has one"
pub record FirstDifference (a : Asked) (trace : List ℕ) (es : List Entry) (line : ℕ) : Type 0 where
  pub on : a.statistics ≡ 1
  pub place : ℕ
  pub within : place < length es
  pub its_line : (entry_at es place).line ≡ line
  pub is : LineDiffers trace es place
  pub first : (k : ℕ) → k < place → ¬ LineDiffers trace es k

-- 19: all lines are good, 17 is not called for, and a statistics line differs
pub record OtherStatistics (i : Inputs) (line : ℕ) : Type 0 where
  -- one more than there are lines
  pub end : ℕ
  pub comes : ComesTo i end done
  pub levels : AtLevels i.asked comes.before
  pub differs : FirstDifference i.asked i.trace comes.before line

-- no line calls for it
abbrev pub NoDifference : Asked → List ℕ → List Entry → Type 0
NoDifference a trace es = a.statistics ≡ 1 → (k : ℕ) → k < length es → ¬ LineDiffers trace es k
