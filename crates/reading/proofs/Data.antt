-- The data of a listed line: as many as stated, three whole numbers told from others, and what they come to where there are some.
use Rattle.std.specs.Prelude.{Option, Some, None, Ok, Err}
use Prim.Native.Nat.{ℕ, zero, suc, ◌≤◌, ◌<◌}
use native.Mathlib.Omega.{arith}
use mathlib.Core.Path.{◌≡◌, refl, ap, ◌∙◌}
use mathlib.Core.Logic.{◌⊎◌, inl, inr}
use mathlib.Core.Bool.{cond}
use mathlib.Core.List.{List, [], ◌∷◌}
use lib.ListN.{length}
use lib.IntN.{ℤ}
use lib.Dec.{leb}
use borrow.Author.Tests.{le-leb, lt-leb}
use Rattle.paper.specs.Forms.{whole_of}
use Rattle.paper.specs.Line.{First, nothing, first, on_first, first_of, Numbers, wrong, numbers, pushed, values_of, as_wholes, described, data_of}
use Rattle.paper.specs.declared.Data.TheVariants.{Three, Others}
use Rattle.forms.proofs.Tests.{never}

-- "The data are exactly as many as stated."
pub values_many : (form : List ℕ → Option ℤ) (k n : ℕ) (f : Option (List ℕ)) (vs : List ℤ) → values_of form k n f ≡ numbers vs → length vs ≡ n
unfolding values_of
values_many form k zero None vs e = let q : [] ≡ vs = cc in rw (← q)
values_many form k zero (Some l) vs e = never (cc)
values_many form k (suc n) f vs e = go (λ g us. values_many form (suc k) n g us) (first_of form f) e
  where
    push : (v : ℤ) (x : Numbers) → ((us : List ℤ) → x ≡ numbers us → length us ≡ n) → pushed v x ≡ numbers vs → length vs ≡ suc n
    push v (wrong j) later e = never (cc)
    push v (numbers us) later e = let q : v ∷ us ≡ vs = cc in rw (← q) (ap suc (later us refl))

    go : ((g : Option (List ℕ)) (us : List ℤ) → values_of form (suc k) n g ≡ numbers us → length us ≡ n)
        → (x : First) → on_first x (wrong k) (λ v g. pushed v (values_of form (suc k) n g)) ≡ numbers vs → length vs ≡ suc n
    go later nothing e = never (cc)
    go later (first v g) e = push v (values_of form (suc k) n g) (later g) e

-- three whole numbers are told from others
abbrev pub WholesTold : List ℤ → Type 0
WholesTold vs =
    ((length vs ≡ 3) × (a : ℤ) × (b : ℤ) × (c : ℤ) × (as_wholes (numbers vs) ≡ Ok (Three a b c)))
    ⊎ ((¬ (length vs ≡ 3)) × (as_wholes (numbers vs) ≡ Ok Others))

pub wholes_told : (vs : List ℤ) → WholesTold vs
unfolding as_wholes
wholes_told [] = inr (λ e. omega arith, refl)
wholes_told (a ∷ []) = inr (λ e. omega arith, refl)
wholes_told (a ∷ b ∷ []) = inr (λ e. omega arith, refl)
wholes_told (a ∷ b ∷ c ∷ []) = inl (refl, a, b, c, refl)
wholes_told (a ∷ b ∷ c ∷ d ∷ vs) = inr (λ e. omega arith, refl)

-- ---- all of them

some_data : (n : ℕ) → 0 < n → (f : Option (List ℕ))
    → data_of n f ≡ cond (leb n 16) (on_first (first_of whole_of f) (Err 6) (λ descriptor g. described n descriptor g)) (Err 5)
unfolding data_of
some_data zero h f = absurd (omega arith)
some_data (suc n) h f = refl

pub data_few : (n : ℕ) → 0 < n → n ≤ 16 → (f : Option (List ℕ))
    → data_of n f ≡ on_first (first_of whole_of f) (Err 6) (λ descriptor g. described n descriptor g)
data_few n h few f = some_data n h f ∙ rw (le-leb n 16 few)

-- "in a listed record at most 16"
pub data_many : (n : ℕ) (f : Option (List ℕ)) → 16 < n → data_of n f ≡ Err 5
data_many n f h = some_data n (omega arith) f ∙ rw (lt-leb n 16 h)
