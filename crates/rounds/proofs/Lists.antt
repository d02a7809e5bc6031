-- The lists that the paper's definitions compute with, place by place.
use Prim.Native.Nat.{ℕ, zero, suc, ◌<◌}
use native.Mathlib.Omega.{arith}
use mathlib.Core.Path.{◌≡◌, refl, ap}
use mathlib.Core.List.{List, [], ◌∷◌}
use mathlib.Core.Bool.{Bool, true, false, cond}
use lib.ListN.{length}
use lib.IntN.{ℤ}
use lib.Signed.{le_z, le_z_yes, ◌≤ℤ◌, ≤ℤ_refl}
use lib.Dec.{T}
use Rattle.paper.specs.Clock.{limit, listed, time_at, same, within_limit}
use Rattle.rounds.proofs.Order.{≤ℤ-antisym}

pub length_listed : (n : ℕ) (f : ℕ → ℤ) → length (listed n f) ≡ n
length_listed zero f = refl
length_listed (suc n) f = ap suc (length_listed n (λ i. f (suc i)))

pub listed_at : (n : ℕ) (f : ℕ → ℤ) (i : ℕ) → i < n → time_at (listed n f) i ≡ f i
listed_at zero f i l = absurd (omega arith)
listed_at (suc n) f zero l = refl
listed_at (suc n) f (suc i) l = listed_at n (λ j. f (suc j)) i (omega arith)

pub listed_same : (n : ℕ) (f g : ℕ → ℤ) → ((i : ℕ) → i < n → f i ≡ g i) → listed n f ≡ listed n g
listed_same zero f g e = refl
listed_same (suc n) f g e = rw (e zero (omega arith), listed_same n (λ i. f (suc i)) (λ i. g (suc i)) (λ i l. e (suc i) (omega arith)))

pub listed_times : (xs : List ℤ) → listed (length xs) (time_at xs) ≡ xs
listed_times [] = refl
listed_times (x ∷ xs) = ap (λ (ys : List ℤ). x ∷ ys) (listed_times xs)

-- two tests, one after the other
both : (a b : Bool) → T (cond a b false) → T a × T b
both true b h = (tt, h)
both false b h = absurd h

join : (a b : Bool) → T a → T b → T (cond a b false)
join true b h k = k
join false b h k = absurd h

pub same_equal : (xs ys : List ℤ) → T (same xs ys) → xs ≡ ys
unfolding same
same_equal [] [] h = refl
same_equal [] (y ∷ ys) h = absurd h
same_equal (x ∷ xs) [] h = absurd h
same_equal (x ∷ xs) (y ∷ ys) h =
    let b = both (le_z x y) (cond (le_z y x) (same xs ys) false) h in
    let c = both (le_z y x) (same xs ys) b.1 in
    let e : x ≡ y = ≤ℤ-antisym (le_z_yes b.0) (le_z_yes c.0) in
    rw (e, same_equal xs ys c.1)

pub equal_same : (xs : List ℤ) → T (same xs xs)
unfolding same
equal_same [] = tt
equal_same (x ∷ xs) =
    let le : T (le_z x x) = (≤ℤ_refl x).le in
    join (le_z x x) (cond (le_z x x) (same xs xs) false) le (join (le_z x x) (same xs xs) le (equal_same xs))

pub within_at : (xs : List ℤ) → T (within_limit xs) → (i : ℕ) → i < length xs → time_at xs i ≤ℤ limit
unfolding within_limit
within_at [] h i l = absurd (omega arith)
within_at (x ∷ xs) h zero l = le_z_yes (both (le_z x limit) (within_limit xs) h).0
within_at (x ∷ xs) h (suc i) l = within_at xs (both (le_z x limit) (within_limit xs) h).1 i (omega arith)

pub at_within : (xs : List ℤ) → ((i : ℕ) → i < length xs → time_at xs i ≤ℤ limit) → T (within_limit xs)
unfolding within_limit
at_within [] h = tt
at_within (x ∷ xs) h = join (le_z x limit) (within_limit xs) (h 0 (omega arith)).le (at_within xs (λ i l. h (suc i) (omega arith)))
