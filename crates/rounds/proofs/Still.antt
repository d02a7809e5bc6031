-- Where nothing has to move.
use Prim.Native.Nat.{ℕ, ◌<◌}
use native.Mathlib.Omega.{arith}
use mathlib.Core.Path.{◌≡◌, sym, ◌∙◌}
use mathlib.Core.Logic.{◌↔◌, inl, inr, ⊎_elim}
use mathlib.Core.List.{List}
use lib.IntN.{ℤ}
use lib.Signed.{◌≤ℤ◌, ◌<ℤ◌, <ℤ_irrefl}
use Rattle.paper.specs.Clock.{Waits, Sound, round, listed, time_at, settled, settle}
use Rattle.rounds.specs.Meaning.{Closed, Answer}
use Rattle.rounds.proofs.Order.{≤ℤ-antisym, compare}
use Rattle.rounds.proofs.Counting.{some_or_all}
use Rattle.rounds.proofs.Next.{next_own}
use Rattle.rounds.proofs.Rounds.{next_sound}
use Rattle.rounds.proofs.Lists.{length_listed, listed_at}
use Rattle.rounds.proofs.Stops.{sound_same, stop_settled}
use Rattle.rounds.proofs.Meaning.{means_settle, settled_answer, settled_round}

module _ (w : Waits) (closed : Closed w) where
  -- originals that are sound are the answer, in round 0
  pub still_settled : Sound w w.original → settle w ≡ settled 0 (listed w.size w.original)
  unfolding round
  still_settled sound =
      sym (means_settle w closed _
      (stop_settled w closed 0 (listed w.size w.original) (λ m l repeats. omega arith)
      (λ i i<. ≤ℤ-antisym (next_sound sound i i<) (next_own w w.original i)) (length_listed w.size w.original)
      (λ i i<. sym (listed_at w.size w.original i i<))
      (λ i i<. rw (listed_at w.size w.original i i<) (sound.within i i<))))

  module _ {k : ℕ} {xs : List ℤ} (answer : settle w ≡ settled k xs) where
    -- no round moves anything exactly if every time is its original
    pub still_iff : (k ≡ 0) ↔ ((i : ℕ) → i < w.size → time_at xs i ≡ w.original i)
    unfolding round
    still_iff = (to, of)
      where
        to : k ≡ 0 → (i : ℕ) → i < w.size → time_at xs i ≡ w.original i
        to e i i< = settled_round w closed (rw e at (settled_answer w closed answer)) i i<

        of : ((i : ℕ) → i < w.size → time_at xs i ≡ w.original i) → k ≡ 0
        of e =
            let sound = sound_same w closed (time_at xs) w.original e (settled_answer w closed answer).least.sound in
            let same : settled k xs ≡ settled 0 (listed w.size w.original) = sym answer ∙ still_settled sound in
            cc

    -- and rounds are needed exactly if some time is above its original
    pub moved_iff : (0 < k) ↔ ((i : ℕ) × (i < w.size) × (w.original i <ℤ time_at xs i))
    moved_iff = (to, of)
      where
        a : Answer w k xs
        a = settled_answer w closed answer

        to : 0 < k → (i : ℕ) × (i < w.size) × (w.original i <ℤ time_at xs i)
        to some =
            ⊎_elim (λ one. one)
            (λ all. let none : k ≡ 0 = still_iff.1 (λ i i<. ≤ℤ-antisym (all i i<) (a.least.sound.above i i<)) in absurd (omega arith))
            (some_or_all (λ i. w.original i <ℤ time_at xs i) (λ i. time_at xs i ≤ℤ w.original i)
            (λ i. compare (w.original i) (time_at xs i) inl inr) w.size)

        of : (i : ℕ) × (i < w.size) × (w.original i <ℤ time_at xs i) → 0 < k
        of (i, i<, less) =
            let some : ¬ (k ≡ 0) = λ e. <ℤ_irrefl (rw (still_iff.0 e i i<) at less) in
            omega arith
