-- The chain as it is computed: of the ways back that are kept exactly and have at most so many records, the one with the fewest steps that
-- goes by the processor at the first step where two differ.
use Rattle.std.specs.Prelude.{Option, Some, None, option_map}
use Rattle.std.proofs.lemmas.Option.{same_Some, none-some}
use Prim.Native.Nat.{ℕ, zero, suc}
use native.Mathlib.Omega.{arith}
use native.Mathlib.Decide.{ℕ_discrete}
use mathlib.Core.Path.{◌≡◌, refl}
use mathlib.Core.Logic.{◌⊎◌, inl, inr}
use mathlib.Core.Bool.{Bool, true, false, cond}
use mathlib.Core.List.{List, [], ◌∷◌}
use lib.IntN.{ℤ, pos, ◌+ℤ◌}
use Rattle.paper.specs.Tests.{eq_z}
use Rattle.paper.specs.Clock.{Waits}
use Rattle.paper.specs.Chain.{exactly, steps_of, fewer, onto, chain_in}
use Rattle.rounds.specs.Meaning.{Wait, on_before, on_send}
use Rattle.matching.proofs.Keys.{eq_z_true, eq_z_same}
use Rattle.demands.proofs.Tests.{untold, same_tells}
use Rattle.causes.specs.Choice.{Sooner, now, later}
use Rattle.causes.proofs.Held.{Held, still, goes}
use Rattle.causes.proofs.Along.{held_some, held_begins, held_one}
use Rattle.causes.proofs.Best.{Best, all_long, foremost, best_same, best_before, best_more, best_fewer}

-- ---- a step is to a record that is waited for exactly so long

module _ (x : ℕ → ℤ) (time : ℤ) (v j : ℕ) where
  pub exactly_some : (o : Option ℕ) → exactly x time v o ≡ Some j → (o ≡ Some j) × (time ≡ x j +ℤ pos v)
  unfolding exactly
  exactly_some None h = absurd (none-some j h)
  exactly_some (Some k) h = go (eq_z time (x k +ℤ pos v)) refl h
    where
      go : (t : Bool) → eq_z time (x k +ℤ pos v) ≡ t → cond t (Some k) None ≡ Some j → (Some k ≡ Some j) × (time ≡ x j +ℤ pos v)
      go true e h = (h, rw (same_Some k j h) at (eq_z_true time (x k +ℤ pos v) e))
      go false e h = absurd (none-some j h)

  pub some_exactly : (o : Option ℕ) → o ≡ Some j → time ≡ x j +ℤ pos v → exactly x time v o ≡ Some j
  unfolding exactly
  some_exactly o e kept = rw (e, kept, eq_z_same (x j +ℤ pos v))

module _ (w : Waits) (x : ℕ → ℤ) where
  -- from the record of a step on
  abbrev Next : Option ℕ → List ℕ → Type 0
  Next o c = (j : ℕ) × (o ≡ Some j) × Held w x j c

  -- ---- one step

  module _ (i : ℕ) where
    abbrev processor : Option ℕ
    processor = exactly x (x i) (w.gap i) (w.before i)

    abbrev send : Option ℕ
    send = exactly x (x i) (w.latency i) (w.send i)

    -- on from the record by the processor or by the send
    abbrev Goes : List ℕ → Type 0
    Goes d = (c : List ℕ) × (d ≡ i ∷ c) × (Next processor c ⊎ Next send c)

    by_wait : {j v : ℕ} {c : List ℕ} → Wait w i j v → x i ≡ x j +ℤ pos v → Held w x j c → Next processor c ⊎ Next send c
    by_wait {j} (on_before b) e h = inl (j, some_exactly x (x i) (w.gap i) j (w.before i) b e, h)
    by_wait {j} (on_send b) e h = inr (j, some_exactly x (x i) (w.latency i) j (w.send i) b e, h)

    held_goes : (d : List ℕ) → ¬ (x i ≡ w.original i) → Held w x i d → Goes d
    held_goes d moved (still e) = absurd (moved e)
    held_goes d moved (goes {c = c} wait e h) = (c, refl, by_wait wait e h)

    goes_held : (d : List ℕ) → Goes d → Held w x i d
    goes_held d (c, is, inl (j, p, h)) =
        let (b, e) = exactly_some x (x i) (w.gap i) j (w.before i) p in rw is (goes (on_before b) e h)
    goes_held d (c, is, inr (j, p, h)) =
        let (b, e) = exactly_some x (x i) (w.latency i) j (w.send i) p in rw is (goes (on_send b) e h)

    -- "the processor's step before the send's", where they differ
    processor_first : (c d : List ℕ) → Next processor c → Next send d → Next processor d ⊎ Sooner w (i ∷ c) (i ∷ d)
    processor_first c d (j, p, h) (k, q, g) = go (ℕ_discrete j k)
      where
        go : Dec (j ≡ k) → Next processor d ⊎ Sooner w (i ∷ c) (i ∷ d)
        go (yes same) = inl (k, rw same at p, g)
        go (no other) =
            inr (rw ((held_begins h).1, (held_begins g).1) (now (exactly_some x (x i) (w.gap i) j (w.before i) p).0 other))

  -- ---- the chain

  module _ (most : ℕ) (chain : ℕ → Option (List ℕ)) (found : (j : ℕ) → Best (Held w x j) (Sooner w) most (chain j)) where
    best_onto : (i : ℕ) (o : Option ℕ) → Best (Next o) (λ c d. Sooner w (i ∷ c) (i ∷ d)) most (onto chain o)
    unfolding onto
    best_onto i None = all_long (λ d (j, e, h). absurd (none-some j e))
    best_onto i (Some j) =
        best_before (λ c d. later) (best_same (λ d h. (j, refl, h)) (λ d (k, e, h). rw (same_Some j k e) h) (found j))

    best_step : (i : ℕ) → ¬ (x i ≡ w.original i)
        → Best (Held w x i) (Sooner w) (suc most) (option_map (λ c. i ∷ c) (fewer (onto chain (processor i)) (onto chain (send i))))
    best_step i moved =
        best_same (goes_held i) (λ d. held_goes i d moved)
        (best_more i (best_fewer (processor_first i) (best_onto i (processor i)) (best_onto i (send i))))

  best_still : (most i : ℕ) → x i ≡ w.original i → Best (Held w x i) (Sooner w) (suc most) (Some (i ∷ []))
  best_still most i e =
      foremost
      (record { is = still e; short = omega arith; fewest = λ d h. omega (arith, held_some h); sooner = λ d h l. inl (held_one h (omega arith)) })

  pub finds : (most i : ℕ) → Best (Held w x i) (Sooner w) most (chain_in (steps_of w x) most i)
  unfolding chain_in steps_of
  finds zero i = all_long (λ d h. held_some h)
  finds (suc most) i = go (eq_z (x i) (w.original i)) refl (best_step most (chain_in (steps_of w x) most) (finds most) i)
    where
      on : Option (List ℕ)
      on = option_map (λ c. i ∷ c) (fewer (onto (chain_in (steps_of w x) most) (processor i)) (onto (chain_in (steps_of w x) most) (send i)))

      go : (t : Bool) → eq_z (x i) (w.original i) ≡ t → (¬ (x i ≡ w.original i) → Best (Held w x i) (Sooner w) (suc most) on)
          → Best (Held w x i) (Sooner w) (suc most) (cond t (Some (i ∷ [])) on)
      go true e step = best_still most i ((same_tells _ _).holds e)
      go false e step = step (untold (same_tells _ _) e)
