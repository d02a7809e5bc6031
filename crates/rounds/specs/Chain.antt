-- Why a record stands where it does: back from it, wait by wait, to a record still at its original.
use Rattle.std.specs.Prelude.{ℕ, zero, suc, ◌≡◌, ℤ, pos, ◌+ℤ◌, ◌<ℤ◌}
use Rattle.paper.specs.Clock.{Waits, round}
use Rattle.rounds.specs.Meaning.{Wait}

-- record i last moved in round k, in which it came to its time x i; in round 0 where it never moved
abbrev pub LastMoved : Waits → (ℕ → ℤ) → ℕ → ℕ → Type 0
LastMoved w x zero i = w.original i ≡ x i
LastMoved w x (suc k) i = (round w k i <ℤ x i) × (round w (suc k) i ≡ x i)

-- record i stands where it does by so many waits, each of which is kept exactly
pub data Chain (w : Waits) (x : ℕ → ℤ) : ℕ → ℕ → Type 0 where
  own : {i : ℕ} → w.original i ≡ x i → Chain w x zero i
  after : {k i j v : ℕ} → Wait w i j v → x i ≡ x j +ℤ pos v → Chain w x k j → Chain w x (suc k) i
