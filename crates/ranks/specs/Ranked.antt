-- Tables of steps, the first kind and the second: of each of n records the place that a step leads to, where that is below n. And what it is
-- for numbers to be the fewest steps from each record to one with none.
use Rattle.std.specs.Prelude.{ℕ, suc, ◌≤◌, ◌<◌, ◌≡◌, ◌⊎◌, ◌↔◌, Bool, true, ◌&&◌, List, length, get_or, ltb}
use Rattle.store.specs.Layout.{too_many}
use Rattle.engine.specs.Promise.{all_are}

-- the number at a place
abbrev pub at : List ℕ → ℕ → ℕ
at l i = get_or l i 0

-- no two steps of the table lead to one record
abbrev pub OneEach : List ℕ → Type 0
OneEach table = (i k : ℕ) → i < length table → k < length table → at table i ≡ at table k → at table i < length table → i ≡ k

-- a step of either kind leads from record i to record j
abbrev pub Leads : (first second : List ℕ) → ℕ → ℕ → Type 0
Leads first second i j = (at first i ≡ j) ⊎ (at second i ≡ j)

-- a record that a step leads to, and that has one step less
pub record Cause (n : ℕ) (first second ranks : List ℕ) (i : ℕ) : Type 0 where
  pub on : ℕ
  pub inside : on < n
  pub leads : Leads first second i on
  pub less : at ranks i ≡ suc (at ranks on)

-- n records; those that have 0 before have 0 steps, and n stands for a record that no steps lead from to one of them
pub record Ranked (n : ℕ) (first second before ranks : List ℕ) : Type 0 where
  pub size : length ranks ≡ n
  pub ends : (i : ℕ) → i < n → (at ranks i ≡ 0) ↔ (at before i ≡ 0)
  pub most : (i : ℕ) → i < n → at ranks i ≤ n
  pub caused : (i : ℕ) → i < n → at ranks i < n → ¬ (at ranks i ≡ 0) → Cause n first second ranks i
  pub fewest : (i j : ℕ) → i < n → j < n → Leads first second i j → at ranks i ≤ suc (at ranks j)

-- n records are not too many, and there are n of each
unfoldable pub rankable : ℕ → List ℕ → Bool
rankable n lengths = ltb n too_many && all_are n lengths

-- where each record is led to by at most one step of a kind
pub record RanksOf (n : ℕ) (first second before ranks : List ℕ) : Type 0 where
  pub ranked : OneEach first → OneEach second → Ranked n first second before ranks

-- and the slices fit
pub record RankedInto (fits : Bool) (n : ℕ) (first second before ranks : List ℕ) : Type 0 where
  pub counts : fits ≡ true → RanksOf n first second before ranks
