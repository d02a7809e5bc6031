-- Numbers that are each at most n: the test over a list from one place to the next, and as a fact.
use Prim.Native.Nat.{ℕ, zero, suc, ◌+◌, ◌≤◌, ◌<◌}
use native.Mathlib.Omega.{arith}
use native.Mathlib.Numerals.{add-one}
use mathlib.Core.Path.{◌≡◌, refl}
use mathlib.Core.List.{List, [], ◌∷◌}
use mathlib.Core.Bool.{true, false}
use lib.ListN.{length, drop, get_or, drop_of_length-le}
use lib.Seq.{drop-cons}
use lib.Dec.{leb}
use borrow.Author.Tests.{le-leb, lt-leb, leb-true}
use Rattle.paper.specs.Tests.{all_up_to}
use Rattle.forms.proofs.Tests.{both}

module _ (n : ℕ) where
  module _ (l : List ℕ) (i : ℕ) where
    pub bounded_on : i < length l → get_or l i 0 ≤ n → all_up_to n (drop i l) ≡ all_up_to n (drop (i + 1) l)
    unfolding all_up_to
    bounded_on h m = rw (add-one, drop-cons l i 0 h, le-leb (get_or l i 0) n m)

    pub bounded_not : i < length l → n < get_or l i 0 → false ≡ all_up_to n (drop i l)
    unfolding all_up_to
    bounded_not h m = rw (drop-cons l i 0 h, lt-leb (get_or l i 0) n m)

    pub bounded_end : length l ≤ i → true ≡ all_up_to n (drop i l)
    unfolding all_up_to
    bounded_end h = rw (drop_of_length-le l h)

  pub bounded_holds : (l : List ℕ) → all_up_to n l ≡ true → (k : ℕ) → get_or l k 0 ≤ n
  unfolding all_up_to
  bounded_holds [] e k = omega arith
  bounded_holds (x ∷ xs) e zero = leb-true x n (both (leb x n) (all_up_to n xs) e).0
  bounded_holds (x ∷ xs) e (suc k) = bounded_holds xs (both (leb x n) (all_up_to n xs) e).1 k

  pub bounded_told : (l : List ℕ) → ((k : ℕ) → k < length l → get_or l k 0 ≤ n) → all_up_to n l ≡ true
  unfolding all_up_to
  bounded_told [] h = refl
  bounded_told (x ∷ xs) h = rw (le-leb x n (h 0 (omega arith))) (bounded_told xs (λ k l. h (suc k) (omega arith)))
