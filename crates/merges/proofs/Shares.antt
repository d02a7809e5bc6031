-- "both hold a listed record of one processor": what the tests of 18 tell.
use Prim.Native.Nat.{ℕ, zero, suc}
use native.Mathlib.Omega.{arith}
use mathlib.Core.Path.{◌≡◌, refl}
use mathlib.Core.Bool.{Bool, true, false, ◌||◌}
use mathlib.Core.Logic.{◌⊎◌, inl, inr}
use mathlib.Core.List.{List, [], ◌∷◌}
use borrow.Author.Tests.{eqb-true, eq-eqb}
use Rattle.paper.specs.Matching.{entry_at, is_on}
use Rattle.paper.specs.Merging.{holds_on, share_one}
use Rattle.paper.specs.declared.Entry.{Entry}
use Rattle.forms.proofs.Tests.{never}
use Rattle.demands.proofs.Tests.{Tells}
use Rattle.merges.specs.Parts.{HoldsOn}

none_tells : {P : Type 0} → ¬ P → Tells false P
none_tells h = record { holds = λ e. never (cc); told = λ p. absurd (h p) }

either_tells : {a b : Bool} {P Q R : Type 0} → Tells a P → Tells b Q → (P ⊎ Q → R) → (R → P ⊎ Q) → Tells (a || b) R
either_tells {a = true} t u to of = record { holds = λ e. to (inl (t.holds refl)); told = λ r. refl }
either_tells {a = false} {b = b} {P = P} {Q = Q} t u to of = record { holds = λ e. to (inr (u.holds e)); told = λ r. go (of r) }
  where
    go : P ⊎ Q → b ≡ true
    go (inl p) = let e = t.told p in cc
    go (inr q) = u.told q

on_tells : (p : ℕ) (e : Entry) → Tells (is_on p e) (e.body.processor ≡ p)
on_tells p e = record { holds = eqb-true _ _; told = eq-eqb _ _ }

-- one of the records is the first one, or one of the others
module _ (e : Entry) (es : List Entry) (p : ℕ) where
  in_front : (e.body.processor ≡ p) ⊎ HoldsOn es p → HoldsOn (e ∷ es) p
  unfolding entry_at
  in_front (inl q) = (0, omega arith, q)
  in_front (inr (k, l, q)) = (suc k, omega arith, q)

  first_or_later : HoldsOn (e ∷ es) p → (e.body.processor ≡ p) ⊎ HoldsOn es p
  unfolding entry_at
  first_or_later (zero, l, q) = inl q
  first_or_later (suc k, l, q) = inr (k, omega arith, q)

holds_tells : (p : ℕ) (es : List Entry) → Tells (holds_on p es) (HoldsOn es p)
unfolding holds_on
holds_tells p [] = none_tells (λ (k, l, q). omega arith)
holds_tells p (e ∷ es) = either_tells (on_tells p e) (holds_tells p es) (in_front e es p) (first_or_later e es p)

-- a processor of both
abbrev pub OnBoth : List Entry → List Entry → Type 0
OnBoth es fs = (p : ℕ) × HoldsOn es p × HoldsOn fs p

pub shares_tell : (es fs : List Entry) → Tells (share_one es fs) (OnBoth es fs)
unfolding share_one
shares_tell es [] = none_tells (λ (p, h, (k, l, q)). omega arith)
shares_tell es (f ∷ fs) = either_tells (holds_tells f.body.processor es) (shares_tell es fs) to of
  where
    to : HoldsOn es f.body.processor ⊎ OnBoth es fs → OnBoth es (f ∷ fs)
    to (inl h) = (f.body.processor, h, in_front f fs _ (inl refl))
    to (inr (p, h, g)) = (p, h, in_front f fs p (inr g))

    of : OnBoth es (f ∷ fs) → HoldsOn es f.body.processor ⊎ OnBoth es fs
    of (p, h, g) = go (first_or_later f fs p g)
      where
        go : (f.body.processor ≡ p) ⊎ HoldsOn fs p → HoldsOn es f.body.processor ⊎ OnBoth es fs
        go (inl q) = inl (rw q h)
        go (inr g) = inr (p, h, g)
