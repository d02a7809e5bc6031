-- The chain of a record looks at the records' times only, not at how the times go on behind the last record.
use Rattle.std.specs.Prelude.{Option, Some, None}
use Prim.Native.Nat.{ℕ, zero, suc, ◌<◌}
use mathlib.Core.Path.{◌≡◌, refl}
use mathlib.Core.List.{List}
use lib.IntN.{ℤ}
use Rattle.paper.specs.Clock.{Waits}
use Rattle.paper.specs.Chain.{exactly, steps_of, onto, chain_in, chain_of}
use Rattle.rounds.specs.Meaning.{on_before, on_send, Closed}
use Rattle.causes.proofs.Finds.{exactly_some}

module _ (w : Waits) (closed : Closed w) (x y : ℕ → ℤ) (same : (k : ℕ) → k < w.size → x k ≡ y k) where
  -- where a step leads to, it leads to a record
  abbrev Inside : Option ℕ → Type 0
  Inside o = (j : ℕ) → o ≡ Some j → j < w.size

  exactly_agrees : (i : ℕ) → i < w.size → (v : ℕ) (o : Option ℕ) → Inside o → exactly x (x i) v o ≡ exactly y (y i) v o
  unfolding exactly
  exactly_agrees i i< v None inside = refl
  exactly_agrees i i< v (Some j) inside = rw (same i i<, same j (inside j refl))

  exactly_inside : (time : ℤ) (v : ℕ) (o : Option ℕ) → Inside o → Inside (exactly y time v o)
  exactly_inside time v o inside j e = inside j (exactly_some y time v j o e).0

  module _ (f g : ℕ → Option (List ℕ)) (agree : (j : ℕ) → j < w.size → f j ≡ g j) where
    onto_agrees : (o : Option ℕ) → Inside o → onto f o ≡ onto g o
    unfolding onto
    onto_agrees None inside = refl
    onto_agrees (Some j) inside = agree j (inside j refl)

    step_agrees : (i : ℕ) → i < w.size → (v : ℕ) (o : Option ℕ) → Inside o → onto f (exactly x (x i) v o) ≡ onto g (exactly y (y i) v o)
    step_agrees i i< v o inside = rw (exactly_agrees i i< v o inside) (onto_agrees (exactly y (y i) v o) (exactly_inside (y i) v o inside))

  chain_in_lem : (most i : ℕ) → i < w.size → chain_in (steps_of w x) most i ≡ chain_in (steps_of w y) most i
  unfolding chain_in steps_of
  chain_in_lem zero i i< = refl
  chain_in_lem (suc most) i i< =
      let f = chain_in (steps_of w x) most in
      let g = chain_in (steps_of w y) most in
      rw (
        step_agrees f g (chain_in_lem most) i i< (w.gap i) (w.before i) (λ j e. closed i j (w.gap i) i< (on_before e)),
        step_agrees f g (chain_in_lem most) i i< (w.latency i) (w.send i) (λ j e. closed i j (w.latency i) i< (on_send e)),
        same i i<,
      )

  pub chain_agrees : (i : ℕ) → i < w.size → chain_of w x i ≡ chain_of w y i
  unfolding chain_of
  chain_agrees i i< = rw (chain_in_lem w.size i i<)
