-- Slices that fit, and slices that do not.
use Rattle.std.specs.Prelude.{Result, Err}
use Prim.Native.Nat.{ℕ, ◌≤◌}
use native.Mathlib.Omega.{arith}
use mathlib.Core.Path.{◌≡◌, refl, sym, ◌∙◌}
use mathlib.Core.List.{List, [], ◌∷◌}
use mathlib.Core.Bool.{Bool, true, false}
use lib.ListN.{length}
use lib.IntN.{ℤ}
use lib.Dec.{eqb}
use borrow.Author.Tests.{eq-eqb, ne_eqb, eqb-true}
use Rattle.paper.specs.Answer.{Given, most, on_read, reach}
use Rattle.paper.specs.Reading.{read_of}
use Rattle.paper.specs.Statistics.{summed}
use Rattle.paper.specs.declared.Choice.{Choice}
use Rattle.store.specs.Layout.{capacity}
use Rattle.engine.specs.Promise.{all_are}
use Rattle.engine.proofs.Lengths.{first_equal, all_equal}
use Rattle.forms.proofs.Tests.{both}
use Rattle.reach.specs.Reach.{fits, reaches, ReachedBy}
use Rattle.reach.specs.Lines.{Sized, from_lines}
use Rattle.reach.specs.declared.Unreached.{Unreached}
use Rattle.answer.specs.declared.Counts.{Counts}

-- ---- the test

module _ (n room times : ℕ) (lengths : List ℕ) where
  pub other_room : (room ≡ n → ⊥) → false ≡ fits n room (times ∷ lengths)
  unfolding fits
  other_room h = rw (ne_eqb room n h)

  module _ (right : room ≡ n) where
    pub other_times : (times ≡ room → ⊥) → false ≡ fits n room (times ∷ lengths)
    unfolding fits all_are
    other_times h = rw (eq-eqb room n right, ne_eqb times room h)

    pub all_lengths : times ≡ room → {told : Bool} → told ≡ all_are room lengths → told ≡ fits n room (times ∷ lengths)
    unfolding fits all_are
    all_lengths h e = rw (eq-eqb room n right, eq-eqb times room h, e)

-- ---- what it tells

module _ (g : Given) (store sends before gap latency : List ℕ) (times spare : List ℤ) {space : ℕ} (holds : space ≡ capacity store) {told : Bool}
    (tells : told ≡ fits (most g) space (length times ∷ length sends ∷ length before ∷ length gap ∷ length latency ∷ length spare ∷ [])) where
  abbrev fit : Bool
  fit = fits (most g) (capacity store) (length times ∷ length sends ∷ length before ∷ length gap ∷ length latency ∷ length spare ∷ [])

  is_told : fit ≡ told
  is_told = rw (← holds) (sym tells)

  pub unfit : told ≡ false → (store' sends' : List ℕ) (times' : List ℤ) → ReachedBy fit g (Err Unreached.Misfit) store' sends' times'
  unfit e store' sends' times' =
      rw (is_told, e) (record { answers = λ z. absurd (let q : ◌≡◌ {A = ℕ} 0 1 = cc in omega arith); misfits = λ z. refl })

  module _ (fitted : told ≡ true) where
    pub answered : (store' sends' : List ℕ) (times' : List ℤ) (r : Result Counts Unreached) → reaches g.trace (reach g) r store' sends' times'
        → ReachedBy fit g r store' sends' times'
    answered store' sends' times' r says =
        rw (is_told, fitted) (record { answers = λ z. says; misfits = λ z. absurd (let q : ◌≡◌ {A = ℕ} 0 1 = cc in omega arith) })

    whole : (capacity store ≡ most g)
        × (all_are (capacity store) (length times ∷ length sends ∷ length before ∷ length gap ∷ length latency ∷ length spare ∷ []) ≡ true)
    unfolding fits
    whole =
        let (room, all) = both (eqb (capacity store) (most g)) (all_are (capacity store) (length times ∷ length sends ∷ length before ∷ length gap ∷ length latency ∷ length spare ∷ [])) (is_told ∙ fitted) in
        (eqb-true (capacity store) (most g) room, all)

    pub sized : most g ≤ summed → Sized (capacity store) sends before gap latency times spare
    sized few =
        let (t, rest) = first_equal (capacity store) (length times) _ whole.1 in
        let (s, b, k, l, p) = all_equal (capacity store) _ _ _ _ _ rest in
        record {
          few = rw whole.0 few;
          all_sends = s;
          all_before = b;
          all_gap = k;
          all_latency = l;
          all_times = t;
          all_spare = p;
        }

    -- the lines read from the state that 1 to 4 leave
    pub read_on : (choice : Choice) → reach g ≡ on_read g choice (read_of choice (most g) g.trace) (read_of choice (most g) g.trace).stop
        → (store' sends' : List ℕ) (times' : List ℤ) (r : Result Counts Unreached)
        → from_lines g.trace g.latencies g.asked choice (read_of choice (capacity store) g.trace) r store' sends' times'
        → ReachedBy fit g r store' sends' times'
    unfolding from_lines
    read_on choice comes store' sends' times' r says = answered store' sends' times' r (rw comes (rw whole.0 at (says g.places)))
