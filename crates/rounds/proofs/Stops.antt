-- The three ways to stop computing round after round, and what each shows. None of the rounds before was repeated.
use Prim.Native.Nat.{ℕ, zero, suc, ◌-◌, ◌≤◌, ◌<◌}
use native.Mathlib.Omega.{arith}
use mathlib.Core.Path.{◌≡◌, sym}
use mathlib.Core.List.{List}
use lib.ListN.{length}
use borrow.Author.Count.{below_more}
use lib.IntN.{ℤ}
use lib.Signed.{◌≤ℤ◌}
use Rattle.paper.specs.Clock.{Waits, Sound, Least, limit, round, Repeats, time_at, impossible, settled}
use Rattle.rounds.specs.Meaning.{Closed, Means}
use Rattle.rounds.proofs.Order.{≤ℤ-trans}
use Rattle.rounds.proofs.Next.{next_same}
use Rattle.rounds.proofs.Rounds.{next_sound, sound_next, round_below, repeat_least}
use Rattle.rounds.proofs.Bound.{repeats_late}

-- no round before round k is repeated
abbrev pub NoneBefore : Waits → ℕ → Type 0
NoneBefore w k = (m : ℕ) → m < k → Repeats w m → ⊥

pub none_more : (w : Waits) (k : ℕ) → NoneBefore w k → (Repeats w k → ⊥) → NoneBefore w (suc k)
none_more w k before here m l = below_more (λ m. Repeats w m → ⊥) k before here m (omega arith)

module _ (w : Waits) (closed : Closed w) where
  -- where sound times exist, that is at most the last record's round
  pub none_early : {s : ℕ → ℤ} → Sound w s → (k : ℕ) → NoneBefore w k → k ≤ w.size - 1
  none_early sound zero before = omega arith
  none_early {s} sound (suc k) before =
      let late : ¬ (w.size ≤ suc k) = λ l. before k (omega arith) (repeats_late w closed s sound k l) in
      omega arith

  -- what is sound, and what is least, stays so where the same times are told otherwise
  pub sound_same : (x y : ℕ → ℤ) → ((i : ℕ) → i < w.size → x i ≡ y i) → Sound w x → Sound w y
  sound_same x y e sound =
      sound_next w y (λ i i<. rw (← e i i<, next_same w closed y x (λ j j<. sym (e j j<)) i i<) (next_sound sound i i<))
      (λ i i<. rw (e i i<) at (sound.within i i<))

  least_same : (x y : ℕ → ℤ) → ((i : ℕ) → i < w.size → x i ≡ y i) → Least w x → Least w y
  least_same x y e least = record { sound = sound_same x y e least.sound; least = λ z sound i i<. rw (e i i<) at (least.least z sound i i<) }

  -- round k, in xs, is repeated and within the limit
  pub stop_settled : (k : ℕ) (xs : List ℤ) → NoneBefore w k → Repeats w k → length xs ≡ w.size → ((i : ℕ) → i < w.size → round w k i ≡ time_at xs i)
      → ((i : ℕ) → i < w.size → time_at xs i ≤ℤ limit) → Means w (settled k xs)
  unfolding Means
  stop_settled k xs before repeats size times within =
      let least = repeat_least w closed k repeats (λ i i<. rw (times i i<) (within i i<)) in
      record {
        size = size;
        least = least_same (round w k) (time_at xs) times least;
        repeats = repeats;
        first = before;
        bound = none_early least.sound k before;
      }

  -- round k is not within the limit
  pub stop_high : (k : ℕ) → (((i : ℕ) → i < w.size → round w k i ≤ℤ limit) → ⊥) → Means w impossible
  unfolding Means
  stop_high k high s sound = high (λ i i<. ≤ℤ-trans (round_below w closed sound k i i<) (sound.within i i<))

  -- as many rounds as there are records, and none was repeated
  pub stop_late : (k : ℕ) → NoneBefore w k → w.size ≤ k → 0 < k → Means w impossible
  unfolding Means
  stop_late k before late some s sound = omega (arith, none_early sound k before)
