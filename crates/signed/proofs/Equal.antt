-- The test `eq_z`, and the same test on a number's bits.
use mathlib.Core.Path.{◌≡◌, refl, sym, ap, ◌∙◌}
use mathlib.Core.Bool.{Bool, true, false}
use lib.Dec.{eqb}
use lib.IntN.{ℤ, pos, negsuc}
use mir.Syntax.{w64}
use mir.Val.{SFits, to_z, of_z}
use mir.Facts.{to_z-of_z}
use borrow.Author.Tests.{eqb-true, eqb-false, eq-eqb, ne_eqb}
use Rattle.paper.specs.Tests.{eq_z}

pub eq_z_refl : (a : ℤ) → eq_z a a ≡ true
eq_z_refl (pos a) = eq-eqb a a refl
eq_z_refl (negsuc a) = eq-eqb a a refl

pub eq_z_true : (a b : ℤ) → eq_z a b ≡ true → a ≡ b
eq_z_true (pos a) (pos b) e = ap pos (eqb-true a b e)
eq_z_true (pos a) (negsuc b) e = cc
eq_z_true (negsuc a) (pos b) e = cc
eq_z_true (negsuc a) (negsuc b) e = ap negsuc (eqb-true a b e)

pub eq_z_false : (a b : ℤ) → (a ≡ b → ⊥) → eq_z a b ≡ false
eq_z_false (pos a) (pos b) n = ne_eqb a b (λ e. n (ap pos e))
eq_z_false (pos a) (negsuc b) n = refl
eq_z_false (negsuc a) (pos b) n = refl
eq_z_false (negsuc a) (negsuc b) n = ne_eqb a b (λ e. n (ap negsuc e))

pub bits_same : {a b : ℤ} → SFits w64 a → SFits w64 b → eqb (of_z w64 a) (of_z w64 b) ≡ eq_z a b
bits_same {a} {b} fa fb = go (eqb (of_z w64 a) (of_z w64 b)) refl
  where
    go : (t : Bool) → eqb (of_z w64 a) (of_z w64 b) ≡ t → t ≡ eq_z a b
    go true e =
        let q : a ≡ b = sym (to_z-of_z fa) ∙ ap (to_z w64) (eqb-true (of_z w64 a) (of_z w64 b) e) ∙ to_z-of_z fb in
        sym (rw q (eq_z_refl b))
    go false e = sym (eq_z_false a b (λ q. eqb-false (of_z w64 a) (of_z w64 b) e (ap (of_z w64) q)))
