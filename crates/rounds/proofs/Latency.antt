-- Larger latencies and gaps, all else the same: no time is earlier, and what is impossible stays so.
use Prim.Native.Nat.{ℕ, ◌≤◌, ◌<◌}
use mathlib.Core.Path.{◌≡◌, ◌∙◌}
use mathlib.Core.List.{List}
use lib.IntN.{ℤ}
use lib.Signed.{◌≤ℤ◌, ≤ℤ_refl}
use Rattle.paper.specs.Clock.{Waits, Sound, time_at, settled, impossible, settle}
use Rattle.rounds.specs.Meaning.{Wait, on_before, on_send, Closed}
use Rattle.rounds.specs.Compare.{Slower}
use Rattle.rounds.proofs.Order.{≤ℤ-trans, sum_le}
use Rattle.rounds.proofs.Rounds.{sound_wait, sound_of}
use Rattle.rounds.proofs.Meaning.{impossible_iff, settled_answer}

module _ (w v : Waits) (slower : Slower w v) where
  -- each wait is there with at least the weight
  heavier : {i j x : ℕ} → i < w.size → Wait w i j x → (y : ℕ) × (x ≤ y) × Wait v i j y
  heavier {i} i< (on_before e) = (v.gap i, slower.gap i i<, on_before (slower.before i i< ∙ e))
  heavier {i} i< (on_send e) = (v.latency i, slower.latency i i<, on_send (slower.send i i< ∙ e))

  -- so what is sound under the larger ones is sound under the smaller
  pub slower_sound : {s : ℕ → ℤ} → Sound v s → Sound w s
  slower_sound {s} sound =
      sound_of w s (λ i i<. rw (slower.original i i<) at (sound.above i (rw slower.size i<))) (λ i i<. sound.within i (rw slower.size i<))
      (λ i j x i< wait.
      let more = heavier i< wait in
      ≤ℤ-trans (sum_le (≤ℤ_refl (s j)) more.1) (sound_wait sound (rw slower.size i<) more.2))

  module _ (cw : Closed w) (cv : Closed v) where
    -- no time is earlier
    pub slower_later : {k m : ℕ} {xs ys : List ℤ} → settle w ≡ settled k xs → settle v ≡ settled m ys
        → (i : ℕ) → i < w.size → time_at xs i ≤ℤ time_at ys i
    slower_later {xs = xs} {ys = ys} a b i i< =
        (settled_answer w cw a).least.least (time_at ys) (slower_sound (settled_answer v cv b).least.sound) i i<

    -- nothing impossible gets times
    pub slower_impossible : settle w ≡ impossible → settle v ≡ impossible
    slower_impossible e = (impossible_iff v cv).1 (λ s sound. (impossible_iff w cw).0 e s (slower_sound sound))
