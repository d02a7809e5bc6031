-- What is kept of the records that were added: of each the totals of those like it up to itself, and the chains of the buckets. Throughout, l
-- is the store and n the number of its records that may be added.
use Rattle.std.specs.Prelude.{◌≡◌, ℕ, suc, ◌%◌, ◌^◌, ◌<◌, ◌≤◌, true, List, length, ℤ, pos, slice_index, slice_index_or}
use Rattle.paper.specs.Statistics.{summed}
use Rattle.signed.specs.Codes.{code_of}
use Rattle.chains.specs.Chains.{Last}
use Rattle.paper.specs.declared.Entry.{Entry}
use Rattle.statistics.specs.declared.key.Key.{Key}
use Rattle.statistics.specs.declared.total.Total.{Total}
use Rattle.statistics.specs.Keys.{under, key_at, in_bucket}
use Rattle.statistics.specs.Totals.{one, time_in, bytes_in, total}

-- ---- the chains

-- the records before place i are linked to the one before in their bucket
abbrev pub Backed : List ℕ → List ℕ → ℕ → Type 0
Backed l link i = (j b : ℕ) → j < i → in_bucket l b j ≡ true → Last (in_bucket l b) j (slice_index link j)

-- a walk backwards along bucket b may start before `from`
pub record Backward (l : List ℕ) (link : List ℕ) (b from : ℕ) : Type 0 where
  pub backed : Backed l link from
  pub upto : from ≤ length link
  pub here : (k : ℕ) → from ≡ suc k → in_bucket l b k ≡ true

-- ---- the totals

-- of the records like the one at place j, up to it
abbrev pub total_to : (Entry → ℕ) → List ℕ → ℕ → ℕ
total_to weight l j = total weight (under (key_at l j)) l (suc j)

-- a sum is kept modulo 2^64, as the signed number whose code it is
abbrev pub Kept : (Entry → ℕ) → List ℕ → List ℤ → ℕ → Type 0
Kept weight l sums i = (j : ℕ) → j < i → code_of (slice_index_or sums j (pos 0)) ≡ total_to weight l j % 2 ^ 64

-- all that holds where the records before place i were added
pub record Tallied (l : List ℕ) (n : ℕ) (link counts : List ℕ) (times lengths : List ℤ) (heads : List ℕ) (i : ℕ) : Type 0 where
  pub few : n ≤ summed
  pub some : i ≤ n
  pub all_link : length link ≡ n
  pub all_counts : length counts ≡ n
  pub all_times : length times ≡ n
  pub all_lengths : length lengths ≡ n
  pub buckets : length heads ≡ 1024
  pub last : (b : ℕ) → b < 1024 → Last (in_bucket l b) i (slice_index heads b)
  pub backed : Backed l link i
  pub counted : (j : ℕ) → j < i → slice_index counts j ≡ total_to one l j
  pub timed : Kept time_in l times i
  pub sized : Kept bytes_in l lengths i

-- what the records under a key come to, among the first i
pub record TotalOf (l : List ℕ) (key : Key) (i : ℕ) (r : Total) : Type 0 where
  pub count : r.count ≡ total one (under key) l i
  pub times : r.times ≡ total time_in (under key) l i % 2 ^ 64
  pub lengths : r.lengths ≡ total bytes_in (under key) l i % 2 ^ 64
