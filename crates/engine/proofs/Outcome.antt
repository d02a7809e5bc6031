-- How the rounds end: by whether the slices fit, and that there is one end only.
use Rattle.std.specs.Prelude.{Result, Ok, Err}
use Prim.Native.Nat.{ℕ}
use native.Mathlib.Omega.{arith}
use mathlib.Core.Path.{◌≡◌, refl, sym, ap, ◌∙◌}
use mathlib.Core.List.{List}
use mathlib.Core.Bool.{Bool, true, false}
use lib.IntN.{ℤ}
use Rattle.paper.specs.Clock.{Waits, settled, impossible}
use Rattle.engine.specs.Promise.{Ended, RunInto}
use Rattle.engine.specs.declared.Unsettled.{Unsettled}

-- ---- the ways out

module _ {fits : Bool} (w : Waits) (times spare : List ℤ) where
  pub ran : fits ≡ true → {r : Result ℕ Unsettled} {times' spare' : List ℤ} → Ended w r times' spare' → RunInto fits w times spare r times' spare'
  ran e ended = record { ends = λ f. ended; misfits = λ f. absurd (let z : ◌≡◌ {A = ℕ} 0 1 = cc in omega arith) }

  pub misfit : fits ≡ false → RunInto fits w times spare (Err Unsettled.Misfit) times spare
  misfit e = record { ends = λ f. absurd (let z : ◌≡◌ {A = ℕ} 0 1 = cc in omega arith); misfits = λ f. (refl, refl, refl) }

-- ---- one end

module _ (w : Waits) (t t' s s' : List ℤ) where
  one_end : (r q : Result ℕ Unsettled) → Ended w r t s → Ended w q t' s' → r ≡ q
  unfolding Ended
  one_end (Ok k) (Ok m) (e, h) (d, g) = ap Ok (let z : settled k t ≡ settled m t' = sym e ∙ d in cc)
  one_end (Ok k) (Err Unsettled.Impossible) (e, h) d = let z : settled k t ≡ impossible = sym e ∙ d in cc
  one_end (Err Unsettled.Impossible) (Ok m) e (d, g) = let z : impossible ≡ settled m t' = sym e ∙ d in cc
  one_end (Err Unsettled.Impossible) (Err Unsettled.Impossible) e d = refl
  one_end (Err Unsettled.Misfit) q e d = absurd e
  one_end (Ok k) (Err Unsettled.Misfit) e d = absurd d
  one_end (Err Unsettled.Impossible) (Err Unsettled.Misfit) e d = absurd d

  same_times : (k : ℕ) → Ended w (Ok k) t s → Ended w (Ok k) t' s' → (t ≡ t') × (s ≡ s')
  unfolding Ended
  same_times k (e, h) (d, g) = let same : t ≡ t' = (let z : settled k t ≡ settled k t' = sym e ∙ d in cc) in (same, h ∙ same ∙ sym g)

module _ (w : Waits) (times spare : List ℤ) {t t' s s' : List ℤ} where
  pub one_run : (fits : Bool) (r q : Result ℕ Unsettled) → RunInto fits w times spare r t s → RunInto fits w times spare q t' s' → r ≡ q
  one_run true r q a b = one_end w _ _ _ _ r q (a.ends refl) (b.ends refl)
  one_run false r q a b = (a.misfits refl).0 ∙ sym (b.misfits refl).0

  -- and where it has times, one thing that the slices hold
  pub one_held : (fits : Bool) (k : ℕ) → RunInto fits w times spare (Ok k) t s → RunInto fits w times spare (Ok k) t' s' → (t ≡ t') × (s ≡ s')
  one_held true k a b = same_times w _ _ _ _ k (a.ends refl) (b.ends refl)
  one_held false k a b =
      let (x, p, q) = a.misfits refl in
      let (y, c, d) = b.misfits refl in
      (p ∙ sym c, q ∙ sym d)
