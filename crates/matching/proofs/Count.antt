-- How many numbers below n pass a test, and how many entries of a list.
use Prim.Native.Nat.{ℕ, zero, suc, ◌+◌, ◌≤◌, ◌<◌}
use native.Mathlib.Omega.{arith}
use native.Mathlib.Decide.{dec_lt}
use mathlib.Core.Path.{◌≡◌, refl, sym, ap, ◌∙◌}
use mathlib.Core.Bool.{Bool, true, false, cond}
use mathlib.Core.List.{List, [], ◌∷◌}
use lib.ListN.{length, take}
use lib.Seq.{take-length}
use Rattle.paper.specs.Matching.{count_if, entry_at}
use Rattle.paper.specs.declared.Entry.{Entry}

unfoldable pub bit : Bool → ℕ
bit true = 1
bit false = 0

unfoldable pub count : (ℕ → Bool) → ℕ → ℕ
count p zero = 0
count p (suc n) = count p n + bit (p n)

module _ (p : ℕ → Bool) where
  pub count_yes : (n : ℕ) → p n ≡ true → count p (suc n) ≡ suc (count p n)
  unfolding count bit
  count_yes n h = rw h (omega arith)

  pub count_no : (n : ℕ) → p n ≡ false → count p (suc n) ≡ count p n
  unfolding count bit
  count_no n h = rw h (omega arith)

  pub count_front : (n : ℕ) → count p (suc n) ≡ bit (p 0) + count (λ i. p (suc i)) n
  unfolding count
  count_front zero = omega arith
  count_front (suc n) = omega (arith, count_front n)

  pub count_mono : (m n : ℕ) → m ≤ n → count p m ≤ count p n
  unfolding count
  count_mono m zero h = let e : m ≡ 0 = omega arith in rw e (omega arith)
  count_mono m (suc n) h = go (λ l. count_mono m n l) (dec_lt m (suc n))
    where
      go : (m ≤ n → count p m ≤ count p n) → Dec (m < suc n) → count p m ≤ count p n + bit (p n)
      go f (yes l) = omega (arith, f (omega arith))
      go f (no l) = let e : m ≡ suc n = omega arith in rw e (omega arith)

  -- the count stands still where nothing passes
  pub count_still : (m n : ℕ) → m ≤ n → ((i : ℕ) → m ≤ i → i < n → p i ≡ false) → count p n ≡ count p m
  unfolding count
  count_still m zero h none = let e : m ≡ 0 = omega arith in rw e
  count_still m (suc n) h none = go (λ l. count_still m n l (λ i a b. none i a (omega arith))) (dec_lt m (suc n))
    where
      go : (m ≤ n → count p n ≡ count p m) → Dec (m < suc n) → count p (suc n) ≡ count p m
      go f (yes l) = count_no n (none n (omega arith) (omega arith)) ∙ f (omega arith)
      go f (no l) = let e : m ≡ suc n = omega arith in rw e

  -- one that passes is counted from there on
  pub count_less : (i n : ℕ) → i < n → p i ≡ true → count p i < count p n
  count_less i n h e = omega (arith, count_yes i e, count_mono (suc i) n h)

-- tests that agree below n count the same
pub count_same : (p q : ℕ → Bool) (n : ℕ) → ((i : ℕ) → i < n → p i ≡ q i) → count p n ≡ count q n
unfolding count
count_same p q zero h = refl
count_same p q (suc n) h = rw (count_same p q n (λ i l. h i (omega arith)), h n (omega arith))

-- the same of the first entries of a list
bit_cond : (t : Bool) (n : ℕ) → cond t (suc n) n ≡ bit t + n
unfolding bit
bit_cond true n = omega arith
bit_cond false n = omega arith

module _ (test : Entry → Bool) where
  pub count_take : (es : List Entry) (n : ℕ) → n ≤ length es → count_if test (take n es) ≡ count (λ i. test (entry_at es i)) n
  unfolding count_if count entry_at
  count_take es zero h = refl
  count_take [] (suc n) h = absurd (omega arith)
  count_take (e ∷ es) (suc n) h =
      let rest : count_if test (take n es) ≡ count (λ i. test (entry_at es i)) n = count_take es n (omega arith) in
      bit_cond (test e) (count_if test (take n es)) ∙ ap (λ (k : ℕ). bit (test e) + k) rest ∙ sym (count_front (λ i. test (entry_at (e ∷ es) i)) n)

  pub count_all : (es : List Entry) → count_if test es ≡ count (λ i. test (entry_at es i)) (length es)
  count_all es = sym (ap (count_if test) (take-length es)) ∙ count_take es (length es) (omega arith)
