-- The outcome of a call: what each of its ways out comes to, that there is only one, and what it tells a caller.
use Rattle.std.specs.Prelude.{Result, Ok, Err}
use Prim.Native.Nat.{ℕ}
use native.Mathlib.Omega.{arith}
use mathlib.Core.Path.{◌≡◌, refl, sym, ◌∙◌}
use mathlib.Core.List.{List}
use mathlib.Core.Bool.{Bool, true, false, cond}
use lib.ListN.{length, replicate}
use lib.IntN.{ℤ, pos}
use Rattle.paper.specs.Clock as paper
use Rattle.paper.specs.Clock.{Waits, settled, impossible}
use Rattle.engine.specs.Promise.{waits_of, fitting, Ended, RunInto}
use Rattle.engine.specs.Inner.{Sized}
use Rattle.engine.proofs.Lengths.{fits, sized}
use Rattle.clock.specs.Promise.{outcome, answered, outcome_of}
use Rattle.engine.specs.declared.Unsettled.{Unsettled}

-- ---- how the rounds ended

module _ (n : ℕ) (w : Waits) {times spare : List ℤ} where
  answered_rounds : (k : ℕ) → Ended w (Ok k) times spare → outcome (Ok k) times spare ≡ answered n (paper.settle w)
  unfolding answered Ended
  answered_rounds k ended = rw (ended.0, ended.1)

  -- whatever the rounds left was cleared
  answered_never : (times' spare' : List ℤ) → Ended w (Err Unsettled.Impossible) times' spare' → length times' ≡ n → length spare' ≡ n
      → times ≡ replicate (length times') (pos 0)
      → spare ≡ replicate (length spare') (pos 0)
      → outcome (Err Unsettled.Impossible) times spare ≡ answered n (paper.settle w)
  unfolding answered Ended
  answered_never times' spare' ended l m t s = rw (ended, t, s, l, m)

-- ---- the ways out

module _ (before gap send latency : List ℕ) (times spare : List ℤ) where
  -- slices that fit leave the paper's answer
  outcome_fit : fitting before gap send latency times spare ≡ true
      → answered (length times) (paper.settle (waits_of times before gap send latency)) ≡ outcome_of before gap send latency times spare
  unfolding outcome_of
  outcome_fit e = rw e

  module _ {r : Result ℕ Unsettled} {times' spare' : List ℤ}
      (into : RunInto (fitting before gap send latency times spare) (waits_of times before gap send latency) times spare r times' spare') where
    pub settled_rounds : (k : ℕ) → r ≡ Ok k → outcome (Ok k) times' spare' ≡ outcome_of before gap send latency times spare
    settled_rounds k e = go (fitting before gap send latency times spare) refl
      where
        go : (b : Bool) → fitting before gap send latency times spare ≡ b → outcome (Ok k) times' spare' ≡ outcome_of before gap send latency times spare
        go true f = answered_rounds (length times) (waits_of times before gap send latency) k (rw e at (into.ends f)) ∙ outcome_fit f
        go false f = let z : Ok k ≡ Err Unsettled.Misfit = sym e ∙ (into.misfits f).0 in cc

    pub settled_never : {t s : List ℤ} → r ≡ Err Unsettled.Impossible → length times' ≡ length times → length spare' ≡ length spare
        → t ≡ replicate (length times') (pos 0)
        → s ≡ replicate (length spare') (pos 0)
        → outcome (Err Unsettled.Impossible) t s ≡ outcome_of before gap send latency times spare
    settled_never {t} {s} e l m c d = go (fitting before gap send latency times spare) refl
      where
        go : (b : Bool) → fitting before gap send latency times spare ≡ b → outcome (Err Unsettled.Impossible) t s ≡ outcome_of before gap send latency times spare
        go true f =
            answered_never (length times) (waits_of times before gap send latency) times' spare' (rw e at (into.ends f)) l
            (m ∙ (fits before gap send latency times spare f).spares) c d
            ∙ outcome_fit f
        go false f = let z : ◌≡◌ {A = Result ℕ Unsettled} (Err Unsettled.Impossible) (Err Unsettled.Misfit) = sym e ∙ (into.misfits f).0 in cc

    pub settled_misfit : r ≡ Err Unsettled.Misfit → outcome (Err Unsettled.Misfit) times' spare' ≡ outcome_of before gap send latency times spare
    unfolding outcome_of Ended
    settled_misfit e = go (fitting before gap send latency times spare) refl
      where
        go : (b : Bool) → fitting before gap send latency times spare ≡ b → outcome (Err Unsettled.Misfit) times' spare' ≡ outcome_of before gap send latency times spare
        go true f = absurd (rw e at (into.ends f))
        go false f = let (x, p, q) = into.misfits f in rw (f, p, q)

-- ---- one answer

module _ (before gap send latency : List ℕ) (times spare : List ℤ) where
  -- any two outcomes that the promise allows for the same slices are the same, in the answer and in what both slices hold
  pub settle_one_answer : (r r' : Result ℕ Unsettled) (t t' s s' : List ℤ) → outcome r t s ≡ outcome_of before gap send latency times spare
      → outcome r' t' s' ≡ outcome_of before gap send latency times spare → (r ≡ r') × (t ≡ t') × (s ≡ s')
  settle_one_answer r r' t t' s s' e e' = (cc, cc, cc)

-- ---- what a caller learns from an answer

module _ (before gap send latency : List ℕ) (times spare t s : List ℤ) where
  abbrev w : Waits
  w = waits_of times before gap send latency

  pub rounds_learnt : (k : ℕ) → outcome (Ok k) t s ≡ outcome_of before gap send latency times spare → (paper.settle w ≡ settled k t) × (s ≡ t)
  unfolding outcome_of answered
  rounds_learnt k = go (fitting before gap send latency times spare) (paper.settle w)
    where
      go : (b : Bool) (a : paper.Settled) → outcome (Ok k) t s ≡ cond b (answered (length times) a) (outcome (Err Unsettled.Misfit) times spare)
          → (a ≡ settled k t) × (s ≡ t)
      go true impossible e = (cc, cc)
      go true (settled m xs) e = (cc, cc)
      go false a e = (cc, cc)

  pub impossible_learnt : outcome (Err Unsettled.Impossible) t s ≡ outcome_of before gap send latency times spare
      → (paper.settle w ≡ impossible) × (t ≡ replicate (length times) (pos 0)) × (s ≡ replicate (length times) (pos 0))
  unfolding outcome_of answered
  impossible_learnt = go (fitting before gap send latency times spare) (paper.settle w)
    where
      go : (b : Bool) (a : paper.Settled) → outcome (Err Unsettled.Impossible) t s ≡ cond b (answered (length times) a) (outcome (Err Unsettled.Misfit) times spare)
          → (a ≡ impossible) × (t ≡ replicate (length times) (pos 0)) × (s ≡ replicate (length times) (pos 0))
      go true impossible e = (cc, cc, cc)
      go true (settled m xs) e = (cc, cc, cc)
      go false a e = (cc, cc, cc)

  -- slices that fit are never a misfit
  pub misfit_learnt : outcome (Err Unsettled.Misfit) t s ≡ outcome_of before gap send latency times spare → Sized before gap send latency times spare → ⊥
  unfolding outcome_of answered
  misfit_learnt e f = go (paper.settle w) (rw (sized before gap send latency times spare f) at e)
    where
      go : (a : paper.Settled) → outcome (Err Unsettled.Misfit) t s ≡ answered (length times) a → ⊥
      go impossible e = let z : ◌≡◌ {A = ℕ} 0 1 = cc in omega arith
      go (settled m xs) e = let z : ◌≡◌ {A = ℕ} 0 1 = cc in omega arith
