-- Two texts are the same exactly if they are equal.
use Prim.Native.Nat.{ℕ}
use mathlib.Core.Path.{◌≡◌, refl}
use mathlib.Core.Bool.{true}
use mathlib.Core.List.{List, [], ◌∷◌}
use lib.Dec.{eqb}
use borrow.Author.Tests.{eq-eqb, eqb-true}
use Rattle.paper.specs.Text.{is_same}
use Rattle.forms.proofs.Tests.{both, never}

pub same_self : (a : List ℕ) → is_same a a ≡ true
unfolding is_same
same_self [] = refl
same_self (x ∷ a) = rw (eq-eqb x x refl, same_self a)

pub same_means : (a b : List ℕ) → is_same a b ≡ true → a ≡ b
unfolding is_same
same_means [] [] e = refl
same_means [] (y ∷ b) e = never (cc)
same_means (x ∷ a) [] e = never (cc)
same_means (x ∷ a) (y ∷ b) e =
    let (first, more) = both (eqb x y) (is_same a b) e in
    rw (eqb-true x y first, same_means a b more)
