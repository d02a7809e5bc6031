-- The tables of steps, place by place.
use Prim.Native.Nat.{ℕ, ◌<◌}
use mathlib.Core.Path.{◌≡◌}
use mathlib.Core.List.{List}
use lib.ListN.{length, get_or}
use lib.IntN.{ℤ}
use Rattle.paper.specs.Clock.{time_at}
use Rattle.store.proofs.Listed.{length_listed, listed_at}
use Rattle.steps.specs.Tables.{exact_at, end_rank, exact_table, end_ranks}

module _ (times : List ℤ) (waits : List ℕ) (none : ℕ) (table : List ℕ) where
  pub exact_long : length (exact_table times waits none table) ≡ length table
  unfolding exact_table
  exact_long = length_listed (length table) (λ k. exact_at times (get_or waits k 0) none k (get_or table k 0))

  pub exact_at_lem : (i : ℕ) → i < length table → get_or (exact_table times waits none table) i 0 ≡ exact_at times (get_or waits i 0) none i (get_or table i 0)
  unfolding exact_table
  exact_at_lem i i< = listed_at (length table) (λ k. exact_at times (get_or waits k 0) none k (get_or table k 0)) i 0 i<

module _ (originals times : List ℤ) (none : ℕ) (ranks : List ℕ) where
  pub end_long : length (end_ranks originals times none ranks) ≡ length ranks
  unfolding end_ranks
  end_long = length_listed (length ranks) (λ k. end_rank (time_at times k) (time_at originals k) none)

  pub end_at : (i : ℕ) → i < length ranks → get_or (end_ranks originals times none ranks) i 0 ≡ end_rank (time_at times i) (time_at originals i) none
  unfolding end_ranks
  end_at i i< = listed_at (length ranks) (λ k. end_rank (time_at times k) (time_at originals k) none) i 0 i<
