-- Rounds rise: the round after round k is the same whether each record's original or its time in round k goes into it.
use Prim.Native.Nat.{ℕ, suc, ◌<◌}
use mathlib.Core.Path.{◌≡◌, ◌∙◌}
use lib.IntN.{ℤ}
use lib.Signed.{◌≤ℤ◌}
use Rattle.paper.specs.Clock.{Waits, next, round}
use Rattle.rounds.specs.Meaning.{Wait, on_before, on_send, Closed}
use Rattle.rounds.proofs.Order.{≤ℤ-trans, ≤ℤ-antisym}
use Rattle.rounds.proofs.Next.{next_is, next_own, next_wait, next_same}
use Rattle.rounds.proofs.Rounds.{round_above, round_up}

module _ (w : Waits) (x : ℕ → ℤ) where
  -- the same waits with the times x for originals
  abbrev pub risen : Waits
  risen = record {
    size = w.size;
    original = x;
    before = w.before;
    gap = w.gap;
    send = w.send;
    latency = w.latency;
  }

  there : {i j v : ℕ} → Wait w i j v → Wait risen i j v
  there (on_before e) = on_before e
  there (on_send e) = on_send e

  back : {i j v : ℕ} → Wait risen i j v → Wait w i j v
  back (on_before e) = on_before e
  back (on_send e) = on_send e

  next_risen : (i : ℕ) → w.original i ≤ℤ x i → x i ≤ℤ next w x i → next w x i ≡ next risen x i
  next_risen i up low =
      ≤ℤ-antisym
      (next_is w x i (λ z. z ≤ℤ next risen x i) (≤ℤ-trans up (next_own risen x i)) (λ j v wait. next_wait risen x i (there wait)))
      (next_is risen x i (λ z. z ≤ℤ next w x i) low (λ j v wait. next_wait w x i (back wait)))

  pub round_risen : Closed w → (k : ℕ) → ((i : ℕ) → i < w.size → round w k i ≡ x i) → (i : ℕ) → i < w.size → round w (suc k) i ≡ next risen x i
  unfolding round
  round_risen closed k e i i< =
      let same : round w (suc k) i ≡ next w x i = next_same w closed (round w k) x e i i< in
      same ∙ next_risen i (rw (e i i<) at (round_above w k i)) (rw (e i i<, same) at (round_up w closed k i i<))
