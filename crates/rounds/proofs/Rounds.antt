-- The rounds rise to the least sound set.
use Prim.Native.Nat.{ℕ, zero, suc, ◌<◌}
use mathlib.Core.Path.{◌≡◌}
use lib.IntN.{ℤ, pos, ◌+ℤ◌}
use lib.Signed.{◌≤ℤ◌, ≤ℤ_refl}
use Rattle.paper.specs.Clock.{Waits, Sound, Least, limit, next, round, Repeats}
use Rattle.rounds.specs.Meaning.{Wait, on_before, on_send, Closed}
use Rattle.rounds.proofs.Order.{≤ℤ-trans, ≤ℤ-antisym}
use Rattle.rounds.proofs.Next.{next_is, next_own, next_wait, next_mono}

-- both kinds of wait, said once
pub sound_wait : {w : Waits} {x : ℕ → ℤ} → Sound w x → {i j v : ℕ} → i < w.size → Wait w i j v → (x j +ℤ pos v) ≤ℤ x i
sound_wait s {i} {j} i< (on_before e) = s.order i j i< e
sound_wait s {i} {j} i< (on_send e) = s.clock i j i< e

pub sound_of : (w : Waits) (x : ℕ → ℤ) → ((i : ℕ) → i < w.size → w.original i ≤ℤ x i) → ((i : ℕ) → i < w.size → x i ≤ℤ limit)
    → ((i j v : ℕ) → i < w.size → Wait w i j v → (x j +ℤ pos v) ≤ℤ x i) → Sound w x
sound_of w x above within waits = record {
  above = above;
  within = within;
  order = λ i j i< e. waits i j (w.gap i) i< (on_before e);
  clock = λ i j i< e. waits i j (w.latency i) i< (on_send e);
}

-- times are sound exactly if none is above the limit and their next round is nowhere above them; this is one half
pub next_sound : {w : Waits} {s : ℕ → ℤ} → Sound w s → (i : ℕ) → i < w.size → next w s i ≤ℤ s i
next_sound {w} {s} sound i i< = next_is w s i (λ z. z ≤ℤ s i) (sound.above i i<) (λ j v wait. sound_wait sound i< wait)

-- and this the other
pub sound_next : (w : Waits) (s : ℕ → ℤ) → ((i : ℕ) → i < w.size → next w s i ≤ℤ s i) → ((i : ℕ) → i < w.size → s i ≤ℤ limit) → Sound w s
sound_next w s low within =
    sound_of w s (λ i i<. ≤ℤ-trans (next_own w s i) (low i i<)) within (λ i j v i< wait. ≤ℤ-trans (next_wait w s i wait) (low i i<))

-- no time is below its original in any round
pub round_above : (w : Waits) (k i : ℕ) → w.original i ≤ℤ round w k i
unfolding round
round_above w zero i = ≤ℤ_refl (w.original i)
round_above w (suc k) i = next_own w (round w k) i

module _ (w : Waits) (closed : Closed w) where
  -- "both times taken from the round before": rounds never fall
  pub round_up : (k i : ℕ) → i < w.size → round w k i ≤ℤ round w (suc k) i
  unfolding round
  round_up zero i i< = next_own w w.original i
  round_up (suc k) i i< = next_mono w closed (round w k) (round w (suc k)) (round_up k) i i<

  -- every round stays below every sound set
  pub round_below : {s : ℕ → ℤ} → Sound w s → (k i : ℕ) → i < w.size → round w k i ≤ℤ s i
  unfolding round
  round_below sound zero i i< = sound.above i i<
  round_below {s} sound (suc k) i i< = ≤ℤ-trans (next_mono w closed (round w k) s (round_below sound k) i i<) (next_sound sound i i<)

  -- "The answer is the least sound set": a repeated round within the limit is sound, and so is the least
  pub repeat_sound : (k : ℕ) → Repeats w k → ((i : ℕ) → i < w.size → round w k i ≤ℤ limit) → Sound w (round w k)
  unfolding round
  repeat_sound k repeats within = sound_next w (round w k) (λ i i<. rw (repeats i i<) (≤ℤ_refl (round w k i))) within

  pub repeat_least : (k : ℕ) → Repeats w k → ((i : ℕ) → i < w.size → round w k i ≤ℤ limit) → Least w (round w k)
  repeat_least k repeats within = record { sound = repeat_sound k repeats within; least = λ y sound. round_below sound k }

-- there is only one least set
pub least_unique : {w : Waits} {x y : ℕ → ℤ} → Least w x → Least w y → (i : ℕ) → i < w.size → x i ≡ y i
least_unique {x = x} {y = y} a b i i< = ≤ℤ-antisym (a.least y b.sound i i<) (b.least x a.sound i i<)
