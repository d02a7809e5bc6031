-- Whether a number lies within a span.
use Prim.Native.Nat.{ℕ, ◌≤◌, ◌<◌}
use mathlib.Core.Path.{◌≡◌, refl, sym, ◌∙◌}
use mathlib.Core.Bool.{Bool, true, false, ◌&&◌}
use native.Mathlib.Omega.{arith}
use lib.Dec.{leb, ltb}
use borrow.Author.Tests.{leb-true, ltb-true, le-leb, lt-ltb}
use Rattle.text.specs.Held.{within}

module _ (a b k : ℕ) where
  pub inside : a ≤ k → k < b → within a b k ≡ true
  unfolding within
  inside h m = rw (le-leb a k h, lt-ltb k b m)

  tells : within a b k ≡ true → (a ≤ k) × (k < b)
  unfolding within
  tells e = go (leb a k) (ltb k b) refl refl e
    where
      go : (x y : Bool) → leb a k ≡ x → ltb k b ≡ y → x && y ≡ true → (a ≤ k) × (k < b)
      go true true p q e = (leb-true a k p, ltb-true k b q)
      go true false p q e = absurd (let z : ◌≡◌ {A = ℕ} 0 1 = cc in omega arith)
      go false y p q e = absurd (let z : ◌≡◌ {A = ℕ} 0 1 = cc in omega arith)

  pub outside : (a ≤ k → k < b → ⊥) → within a b k ≡ false
  outside h = go (within a b k) refl
    where
      go : (x : Bool) → within a b k ≡ x → x ≡ false
      go true e = let m = tells e in absurd (h m.0 m.1)
      go false e = refl

-- two spans tell the same of two numbers, where each says what the other does
pub same_within : (a b k c d j : ℕ) → (a ≤ k → k < b → (c ≤ j) × (j < d)) → (c ≤ j → j < d → (a ≤ k) × (k < b)) → within a b k ≡ within c d j
same_within a b k c d j there back = go (within a b k) (within c d j) refl refl
  where
    go : (x y : Bool) → within a b k ≡ x → within c d j ≡ y → x ≡ y
    go true true p q = refl
    go false false p q = refl
    go true false p q = let h = tells a b k p in let m = there h.0 h.1 in sym (inside c d j m.0 m.1) ∙ q
    go false true p q = let h = tells c d j q in let m = back h.0 h.1 in sym p ∙ inside a b k m.0 m.1
