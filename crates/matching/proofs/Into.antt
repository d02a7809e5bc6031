-- Numbers sent one by one to numbers, no two to the same: there are as many at most as there are to be sent to.
use Prim.Native.Nat.{ℕ, zero, suc, ◌≤◌, ◌<◌}
use native.Mathlib.Omega.{arith}
use native.Mathlib.Decide.{dec_lt}
use mathlib.Core.Path.{◌≡◌, refl, ◌∙◌}
use mathlib.Core.Bool.{Bool, true, false, cond}
use borrow.Author.Tests.{eq-eqb, ne_eqb}
use lib.Dec.{eqb}
use Rattle.matching.proofs.Count.{count, count_yes, count_no, count_same}

without : (ℕ → Bool) → ℕ → ℕ → Bool
without q a j = cond (eqb j a) false (q j)

without_it : (q : ℕ → Bool) (a : ℕ) → without q a a ≡ false
unfolding without
without_it q a = rw (eq-eqb a a refl)

without_other : (q : ℕ → Bool) (a j : ℕ) → (j ≡ a → ⊥) → without q a j ≡ q j
unfolding without
without_other q a j h = rw (ne_eqb j a h)

one_less : (q : ℕ → Bool) (a m : ℕ) → a < m → q a ≡ true → count q m ≡ suc (count (without q a) m)
one_less q a zero h e = absurd (omega arith)
one_less q a (suc m) h e = go (λ l. one_less q a m l e) (dec_lt a m) (q m) refl
  where
    go : (a < m → count q m ≡ suc (count (without q a) m)) → Dec (a < m) → (t : Bool) → q m ≡ t
        → count q (suc m) ≡ suc (count (without q a) (suc m))
    go f (no l) t g =
        let z : a ≡ m = omega arith in
        let below : count (without q a) a ≡ count q a = count_same (without q a) q a (λ i b. without_other q a i (λ s. absurd (omega arith))) in
        rw (← z, count_yes q a e, count_no (without q a) a (without_it q a), below)
    go f (yes l) true g =
        let other : without q a m ≡ q m = without_other q a m (λ s. absurd (omega arith)) in
        rw (count_yes q m g, count_yes (without q a) m (other ∙ g), f l)
    go f (yes l) false g =
        let other : without q a m ≡ q m = without_other q a m (λ s. absurd (omega arith)) in
        rw (count_no q m g, count_no (without q a) m (other ∙ g), f l)

-- f sends each of the first n that pass p to one below m that passes q, no two to the same
pub record Into (p q : ℕ → Bool) (f : ℕ → ℕ) (n m : ℕ) : Type 0 where
  pub lands : (i : ℕ) → i < n → p i ≡ true → (f i < m) × (q (f i) ≡ true)
  pub apart : (i k : ℕ) → i < n → k < n → p i ≡ true → p k ≡ true → f i ≡ f k → i ≡ k

pub at_most_lem : (p : ℕ → Bool) (f : ℕ → ℕ) (m n : ℕ) (q : ℕ → Bool) → Into p q f n m → count p n ≤ count q m
unfolding count
at_most_lem p f m zero q h = omega arith
at_most_lem p f m (suc n) q h = go (p n) refl (λ r g. at_most_lem p f m n r g)
  where
    go : (t : Bool) → p n ≡ t → ((r : ℕ → Bool) → Into p r f n m → count p n ≤ count r m) → count p (suc n) ≤ count q m
    go true e rest =
        let (l, g) = h.lands n (omega arith) e in
        omega (
          arith,
          count_yes p n e,
          one_less q (f n) m l g,
          rest (without q (f n))
              (record {
                lands = λ i b d.
                    let (x, y) = h.lands i (omega arith) d in
                    (x, without_other q (f n) (f i) (λ s. let z : i ≡ n = h.apart i n (omega arith) (omega arith) d e s in absurd (omega arith)) ∙ y);
                apart = λ i k a b. h.apart i k (omega arith) (omega arith);
              }),
        )
    go false e rest =
        omega (
          arith,
          count_no p n e,
          rest q (record { lands = λ i b. h.lands i (omega arith); apart = λ i k a b. h.apart i k (omega arith) (omega arith) }),
        )
