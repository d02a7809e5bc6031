-- The first records alone, where they wait for each other only: round by round they have the times that they have in the whole.
use Prim.Native.Nat.{ℕ, zero, suc, ◌<◌}
use native.Mathlib.Omega.{arith}
use mathlib.Core.Path.{◌≡◌, sym, ◌∙◌}
use mathlib.Core.List.{List}
use lib.IntN.{ℤ}
use Rattle.paper.specs.Clock.{Waits, Least, next, round, Repeats, time_at, settled, settle}
use Rattle.rounds.specs.Meaning.{Closed}
use Rattle.rounds.specs.Compare.{First}
use Rattle.rounds.proofs.Next.{next_same}
use Rattle.rounds.proofs.Rounds.{repeat_least, least_unique}
use Rattle.rounds.proofs.Meaning.{settled_answer, settled_round}

module _ (w v : Waits) (first : First w v) where
  next_first : (x : ℕ → ℤ) (i : ℕ) → i < w.size → next w x i ≡ next v x i
  unfolding next
  next_first x i i< = rw (first.original i i<, first.before i i<, first.gap i i<, first.send i i<, first.latency i i<)

  module _ (cw : Closed w) (cv : Closed v) where
    pub round_first : (k i : ℕ) → i < w.size → round w k i ≡ round v k i
    unfolding round
    round_first zero i i< = first.original i i<
    round_first (suc k) i i< = next_same w cw (round w k) (round v k) (round_first k) i i< ∙ next_first (round v k) i i<

    module _ {m : ℕ} {ys : List ℤ} (whole : settle v ≡ settled m ys) where
      inside : {i : ℕ} → i < w.size → i < v.size
      inside i< = omega (arith, first.size)

      time_first : (i : ℕ) → i < w.size → round w m i ≡ time_at ys i
      time_first i i< = round_first m i i< ∙ sym (settled_round v cv (settled_answer v cv whole) i (inside i<))

      repeats_first : Repeats w m
      repeats_first i i< =
          round_first (suc m) i i< ∙ (settled_answer v cv whole).repeats i (inside i<) ∙ sym (round_first m i i<)

      least_first : Least w (round w m)
      least_first = repeat_least w cw m repeats_first (λ i i<. rw (time_first i i<) ((settled_answer v cv whole).least.sound.within i (inside i<)))

      -- the same times
      pub first_times : {k : ℕ} {xs : List ℤ} → settle w ≡ settled k xs → (i : ℕ) → i < w.size → time_at xs i ≡ time_at ys i
      first_times part i i< = least_unique (settled_answer w cw part).least least_first i i< ∙ time_first i i<
