-- "Give one with the fewest steps, and among those ..": the best of some lists, where there is one that is short enough.
use Rattle.std.specs.Prelude.{Option, Some, None, option_map}
use Prim.Native.Nat.{ℕ, suc, ◌≤◌, ◌<◌}
use native.Mathlib.Omega.{arith}
use mathlib.Core.Path.{◌≡◌, refl, ap}
use mathlib.Core.Logic.{◌⊎◌, inl, inr, ⊎_elim}
use mathlib.Core.Bool.{Bool, true, false, cond}
use mathlib.Core.List.{List, ◌∷◌}
use lib.ListN.{length}
use lib.Dec.{ltb}
use borrow.Author.Tests.{ltb-true, ltb-false}
use Rattle.paper.specs.Chain.{fewer}

-- c is one of them, none is shorter, and c is before any other of its length
pub record Foremost (P : List ℕ → Type 0) (Before : List ℕ → List ℕ → Type 0) (most : ℕ) (c : List ℕ) : Type 0 where
  pub is : P c
  pub short : length c ≤ most
  pub fewest : (d : List ℕ) → P d → length c ≤ length d
  pub sooner : (d : List ℕ) → P d → length d ≡ length c → (d ≡ c) ⊎ Before c d

-- such a one, or all of them are too long
pub data Best (P : List ℕ → Type 0) (Before : List ℕ → List ℕ → Type 0) (most : ℕ) : Option (List ℕ) → Type 0 where
  all_long : ((d : List ℕ) → P d → most < length d) → Best P Before most None
  foremost : {c : List ℕ} → Foremost P Before most c → Best P Before most (Some c)

-- the same lists told otherwise
pub best_same : {P Q : List ℕ → Type 0} {Before : List ℕ → List ℕ → Type 0} {most : ℕ} {o : Option (List ℕ)}
    → ((d : List ℕ) → P d → Q d) → ((d : List ℕ) → Q d → P d) → Best P Before most o → Best Q Before most o
best_same to of (all_long b) = all_long (λ d q. b d (of d q))
best_same to of (foremost {c = c} b) =
    foremost (record { is = to c b.is; short = b.short; fewest = λ d q. b.fewest d (of d q); sooner = λ d q. b.sooner d (of d q) })

-- a weaker word for what is before what
pub best_before : {P : List ℕ → Type 0} {Before After : List ℕ → List ℕ → Type 0} {most : ℕ} {o : Option (List ℕ)}
    → ((c d : List ℕ) → Before c d → After c d) → Best P Before most o → Best P After most o
best_before to (all_long b) = all_long b
best_before to (foremost {c = c} b) =
    foremost
    (record {
      is = b.is;
      short = b.short;
      fewest = b.fewest;
      sooner = λ d p l. ⊎_elim inl (λ before. inr (to c d before)) (b.sooner d p l);
    })

-- one record more before each
pub best_more : {P : List ℕ → Type 0} {Before : List ℕ → List ℕ → Type 0} {most : ℕ} (i : ℕ) {o : Option (List ℕ)}
    → Best P (λ c d. Before (i ∷ c) (i ∷ d)) most o → Best (λ d. (c : List ℕ) × (d ≡ i ∷ c) × P c) Before (suc most) (option_map (λ c. i ∷ c) o)
best_more i (all_long b) = all_long (λ d (c, e, p). rw e (omega (arith, b c p)))
best_more i (foremost {c = c} b) =
    foremost
    (record {
      is = (c, refl, b.is);
      short = omega (arith, b.short);
      fewest = λ d (e, is, p). rw is (omega (arith, b.fewest e p));
      sooner = λ d (e, is, p) l. rw is (⊎_elim (λ same. inl (ap (λ (d : List ℕ). i ∷ d) same)) inr (b.sooner e p (omega (arith, ap length is))));
    })

-- of two kinds, where any of the first kind is before any of the second that is not of the first kind too
module _ {P Q : List ℕ → Type 0} {Before : List ℕ → List ℕ → Type 0} {most : ℕ}
    (before : (c d : List ℕ) → P c → Q d → P d ⊎ Before c d) where
  first_kind : (c : List ℕ) → Foremost P Before most c → ((d : List ℕ) → Q d → length c ≤ length d) → Foremost (λ d. P d ⊎ Q d) Before most c
  first_kind c b low =
      record {
        is = inl b.is;
        short = b.short;
        fewest = λ d. ⊎_elim (b.fewest d) (low d);
        sooner = λ d kind l. ⊎_elim (λ p. b.sooner d p l) inr (⊎_elim inl (before c d b.is) kind);
      }

  second_kind : (c : List ℕ) → Foremost Q Before most c → ((d : List ℕ) → P d → length c < length d) → Foremost (λ d. P d ⊎ Q d) Before most c
  second_kind c b low =
      record {
        is = inr b.is;
        short = b.short;
        fewest = λ d. ⊎_elim (λ p. omega (arith, low d p)) (b.fewest d);
        sooner = λ d kind l. ⊎_elim (λ p. absurd (omega (arith, low d p))) (λ q. b.sooner d q l) kind;
      }

  pub best_fewer : {a b : Option (List ℕ)} → Best P Before most a → Best Q Before most b → Best (λ d. P d ⊎ Q d) Before most (fewer a b)
  unfolding fewer
  best_fewer (all_long f) (all_long g) = all_long (λ d. ⊎_elim (f d) (g d))
  best_fewer (all_long f) (foremost {c = d} g) = foremost (second_kind d g (λ e p. omega (arith, f e p, g.short)))
  best_fewer (foremost {c = c} f) (all_long g) = foremost (first_kind c f (λ e q. omega (arith, g e q, f.short)))
  best_fewer (foremost {c = c} f) (foremost {c = d} g) = go (ltb (length d) (length c)) refl
    where
      go : (t : Bool) → ltb (length d) (length c) ≡ t → Best (λ d. P d ⊎ Q d) Before most (Some (cond t d c))
      go true e = foremost (second_kind d g (λ b p. omega (arith, f.fewest b p, ltb-true (length d) (length c) e)))
      go false e = foremost (first_kind c f (λ b q. omega (arith, g.fewest b q, ltb-false (length d) (length c) e)))
