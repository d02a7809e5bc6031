-- What the comparison goes by, and what it says of the records of a store by their places. Throughout, l is the store and n the number of its
-- records.
use Rattle.std.specs.Prelude.{◌≡◌, ℕ, ◌<◌, ◌≤◌, Bool, true, false, cond, ◌||◌, List, length, take, ℤ}
use Rattle.paper.specs.Tests.{eq_z, minus}
use Rattle.paper.specs.Line.{Pairs, unpaired, pairs}
use Rattle.paper.specs.Reading.{lines_of}
use Rattle.paper.specs.Statistics.{summed, length_in, time_differs, count_differs, volume_differs, differs, any_differs, line_differs}
use Rattle.reading.specs.Starts.{start_of}
use Rattle.reading.specs.Tidy.{InRange, TidyRecord}
use Rattle.store.specs.Layout.{entry_from, start_from, entries_in}
use Rattle.statistics.specs.Tallied.{Tallied}
use Rattle.paper.specs.declared.Entry.{Entry}

-- ---- what the code finds out

-- a test tells by this that something does not hold
pub record Lacks (P : Type 0) (told : Bool) : Type 0 where
  pub holds : told ≡ false → P
  pub fails : told ≡ true → P → ⊥

-- slices of a place for each of n records, of which times are summed
pub record Sized (n counts times lengths : ℕ) : Type 0 where
  pub few : n ≤ summed
  pub all_counts : counts ≡ n
  pub all_times : times ≡ n
  pub all_lengths : lengths ≡ n

-- a record whose time and whose message's length the format holds, and n of them
pub record Held (e : Entry) : Type 0 where
  pub time : InRange e.body.time
  pub length : length_in e.body.role ≤ 999999999

abbrev pub AllHeld : List ℕ → ℕ → Type 0
AllHeld l n = (k : ℕ) → k < n → Held (entry_from l k)

-- ---- what it does not: of other stores nothing is said

-- the line of record i starts where the store says
abbrev pub Stands : (trace l : List ℕ) → ℕ → Type 0
Stands trace l i = start_from l i ≡ start_of trace (entry_from l i).line

-- the records are those of the trace's lines
pub record Holding (trace l : List ℕ) (n : ℕ) : Type 0 where
  pub tidy : (k : ℕ) → k < n → TidyRecord (entry_from l k).body
  pub stands : (k : ℕ) → k < n → Stands trace l k

pub record Ready (trace l : List ℕ) (n counts times lengths : ℕ) : Type 0 where
  pub sized : Sized n counts times lengths
  pub holding : Holding trace l n

-- ---- what is kept

-- the records before place i were added
pub record Before (l link counts : List ℕ) (times lengths : List ℤ) (heads : List ℕ) (i : ℕ) : Type 0 where
  pub tallied : Tallied l (length link) link counts times lengths heads i
  pub held : AllHeld l (length link)

-- ---- of record i

-- "that processor's earlier records"
unfoldable pub earlier : List ℕ → ℕ → ℕ → List Entry
earlier l n i = take i (entries_in l n)

abbrev pub kind_at : List ℕ → ℕ → ℤ
kind_at l i = (entry_from l i).body.kind

abbrev pub processor_at : List ℕ → ℕ → ℕ
processor_at l i = (entry_from l i).body.processor

-- a pair whose event is listed
unfoldable pub sums_differ : List ℕ → ℕ → ℕ → ℤ → ℤ → Bool
sums_differ l n i event told =
    cond (eq_z (kind_at l i) (minus 101)) (time_differs (earlier l n i) (processor_at l i) event told)
    (cond (eq_z (kind_at l i) (minus 102)) (count_differs (earlier l n i) (processor_at l i) event told) (volume_differs (earlier l n i) (processor_at l i) event told))

-- any pair, and any of some
abbrev pub pair_differs : List ℕ → ℕ → ℕ → ℤ → ℤ → Bool
pair_differs l n i event told = differs (kind_at l i) (earlier l n i) (processor_at l i) event told

abbrev pub pairs_differ : List ℕ → ℕ → ℕ → List (ℤ × ℤ) → Bool
pairs_differ l n i ps = any_differs (kind_at l i) (earlier l n i) (processor_at l i) ps

-- some pairs, behind others of which one was found to differ or none
unfoldable pub behind_found : List ℕ → ℕ → ℕ → Bool → Pairs → Bool
behind_found l n i found (unpaired k) = false
behind_found l n i found (pairs ps) = found || pairs_differ l n i ps

-- its line
abbrev pub differs_at : List ℕ → List ℕ → ℕ → ℕ → Bool
differs_at trace l n i = line_differs (lines_of trace) (earlier l n i) (entry_from l i)
