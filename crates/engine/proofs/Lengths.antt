-- Slices that fit, by the test of all of them and as facts.
use Prim.Native.Nat.{ℕ, ◌<◌}
use native.Mathlib.Omega.{arith}
use mathlib.Core.Path.{◌≡◌, refl, sym, ◌∙◌}
use mathlib.Core.List.{List, [], ◌∷◌}
use mathlib.Core.Bool.{true}
use lib.ListN.{length}
use lib.IntN.{ℤ}
use lib.Dec.{leb, eqb}
use Rattle.std.specs.List.{list_all}
use borrow.Author.Tests.{eqb-true, eq-eqb, ne_eqb}
use Rattle.paper.specs.Tests.{all_up_to}
use Rattle.forms.proofs.Tests.{both}
use Rattle.engine.specs.Promise.{all_are, widest, gaps_for, fitting}
use Rattle.engine.specs.Inner.{Sized}

pub first_equal : (n m : ℕ) (ms : List ℕ) → all_are n (m ∷ ms) ≡ true → (m ≡ n) × (all_are n ms ≡ true)
unfolding all_are
first_equal n m ms h = let (here, more) = both (eqb m n) (all_are n ms) h in (eqb-true m n here, more)

pub all_equal : (n a b c d e : ℕ) → all_are n (a ∷ b ∷ c ∷ d ∷ e ∷ []) ≡ true → (a ≡ n) × (b ≡ n) × (c ≡ n) × (d ≡ n) × (e ≡ n)
all_equal n a b c d e h =
    let (first, h₁) = first_equal n a _ h in
    let (second, h₂) = first_equal n b _ h₁ in
    let (third, h₃) = first_equal n c _ h₂ in
    let (fourth, h₄) = first_equal n d _ h₃ in
    (first, second, third, fourth, (first_equal n e _ h₄).0)

module _ (before gap send latency : List ℕ) (times spare : List ℤ) where
  -- as facts
  pub fits : fitting before gap send latency times spare ≡ true → Sized before gap send latency times spare
  unfolding fitting
  fits e =
      let all = both (all_are (length times) _) _ e in
      let (b, g, s, l, p) = all_equal (length times) _ _ _ _ _ all.0 in
      record { befores = b; gaps = g; sends = s; latencies = l; spares = p; narrow = all.1 }

  pub sized : Sized before gap send latency times spare → fitting before gap send latency times spare ≡ true
  unfolding fitting all_are
  sized f =
      rw (eq-eqb _ _ f.befores, eq-eqb _ _ f.gaps, eq-eqb _ _ f.sends, eq-eqb _ _ f.latencies, eq-eqb _ _ f.spares)
      f.narrow

-- where gaps are lent there is one to each record
pub gap_there : {n lent i : ℕ} → gaps_for n lent ≡ n → i < n → (lent ≡ 0 → ⊥) → i < lent
unfolding gaps_for
gap_there {n} {lent} {i} e l some-lent = let all : lent ≡ n = rw (ne_eqb lent 0 some-lent) at e in omega arith

-- other times in slices of the same length
pub resized : {before gap send latency : List ℕ} {times spare times' spare' : List ℤ} → Sized before gap send latency times spare
    → length times' ≡ length times → length spare' ≡ length times → Sized before gap send latency times' spare'
resized s t p =
    record {
      befores = s.befores ∙ sym t;
      gaps = rw t s.gaps;
      sends = s.sends ∙ sym t;
      latencies = s.latencies ∙ sym t;
      spares = p ∙ sym t;
      narrow = s.narrow;
    }

pub all_narrow : (gap : List ℕ) → list_all (λ x. leb x widest) gap ≡ all_up_to widest gap
unfolding all_up_to
all_narrow [] = refl
all_narrow (x ∷ xs) = rw (all_narrow xs)
