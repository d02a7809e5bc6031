-- The loop of rounds: a slice holds round k, and none before it was repeated. Each way out is one of the theory's stops.
use Prim.Native.Nat.{ℕ, suc, ◌+◌, ◌<◌}
use native.Mathlib.Omega.{arith}
use native.Mathlib.Numerals.{add-one}
use mathlib.Core.Path.{◌≡◌, sym, ◌∙◌}
use mathlib.Core.List.{List}
use lib.ListN.{length}
use lib.IntN.{ℤ}
use Rattle.paper.specs.Clock.{Waits, round, Repeats, time_at, settled, impossible, settle}
use Rattle.rounds.specs.Meaning.{Closed}
use Rattle.rounds.proofs.Stops.{NoneBefore, none_more, stop_settled, stop_high}
use Rattle.rounds.proofs.Meaning.{means_settle}
use Rattle.engine.specs.declared.Turn.TheVariants.{Over, Same, Moved}
use Rattle.engine.specs.Inner.{Low, Turned}

pub record Going (w : Waits) (k : ℕ) (xs : List ℤ) : Type 0 where
  pub size : length xs ≡ w.size
  pub low : Low xs
  pub times : (i : ℕ) → i < w.size → round w k i ≡ time_at xs i
  pub before : NoneBefore w k

-- a turn by a rule that makes the next round
module _ (w : Waits) (closed : Closed w) {k : ℕ} {xs : List ℤ} (g : Going w k xs) (rule : List ℤ → ℕ → ℤ)
    (follows : (i : ℕ) → i < length xs → round w (suc k) i ≡ rule xs i) (ys : List ℤ) where
  pub going_over : Turned rule xs Over ys → settle w ≡ impossible
  unfolding Turned
  going_over over =
      sym (means_settle w closed impossible
      (stop_high w closed (suc k) (λ low. over (λ i i<. rw (follows i i<) at (low i (omega (arith, g.size)))))))

  pub going_same : Turned rule xs Same ys → (settle w ≡ settled k xs) × (ys ≡ xs)
  unfolding Turned
  going_same same =
      let n = g.size in
      let repeats : Repeats w k = λ i i<. follows i (omega arith) ∙ same.0 i (omega arith) ∙ sym (g.times i i<) in (
        sym (means_settle w closed (settled k xs) (stop_settled w closed k xs g.before repeats n g.times (λ i i<. g.low i (omega arith)))),
        same.1,
      )

  pub going_on : Turned rule xs Moved ys → Going w (k + 1) ys
  unfolding Turned
  going_on moved =
      let n = g.size in
      rw (add-one k) (record {
        size = moved.2 ∙ n;
        low = λ i i<. (moved.1 i (omega (arith, moved.2))).1;
        times = λ i i<. follows i (omega arith) ∙ sym (moved.1 i (omega arith)).0;
        before = none_more w k g.before (λ repeats. moved.0 (λ i i<. sym (follows i i<) ∙ repeats i (omega arith) ∙ g.times i (omega arith)));
      })
