-- The numbers below n: how many of them a rule sends to b or less, and whether one of them is of a kind.
use Prim.Native.Nat.{ℕ, zero, suc, ◌+◌, ◌-◌, ◌≤◌, ◌<◌, min, zero-le}
use native.Mathlib.Omega.{arith}
use native.Mathlib.Decide.{dec_lt}
use mathlib.Core.Path.{◌≡◌, ap}
use mathlib.Core.Logic.{◌⊎◌, inl, inr}
use borrow.Author.Count.{below_more}

unfoldable pub count : ℕ → (ℕ → ℕ) → ℕ → ℕ
count zero f b = 0
count (suc n) f b = min 1 (suc b - f n) + count n f b

pub count_le : (n : ℕ) (f : ℕ → ℕ) (b : ℕ) → count n f b ≤ n
unfolding count
count_le zero f b = zero-le
count_le (suc n) f b = omega (arith, count_le n f b)

-- under a rule that is nowhere higher and a higher bound no fewer pass, and more where one passes that did not
module _ (f g : ℕ → ℕ) (b c : ℕ) (up : b ≤ c) where
  count_mono : (n : ℕ) → ((i : ℕ) → i < n → g i ≤ f i) → count n f b ≤ count n g c
  unfolding count
  count_mono zero low = zero-le
  count_mono (suc n) low = omega (arith, low n (omega arith), count_mono n (λ i l. low i (omega arith)))

  pub count_more : (n : ℕ) → ((i : ℕ) → i < n → g i ≤ f i) → (i : ℕ) → i < n → b < f i → g i ≤ c → count n f b < count n g c
  unfolding count
  count_more zero low i i< before after = absurd (omega arith)
  count_more (suc n) low i i< before after = go (λ l. count_more n rest i l before after) (dec_lt i n)
    where
      rest : (j : ℕ) → j < n → g j ≤ f j
      rest j l = low j (omega arith)

      go : (i < n → count n f b < count n g c) → Dec (i < n) → min 1 (suc b - f n) + count n f b < min 1 (suc c - g n) + count n g c
      go earlier (yes l) = omega (arith, low n (omega arith), earlier l)
      go earlier (no nl) = let e : i ≡ n = omega arith in omega (arith, ap f e, ap g e, count_mono n rest)

-- one of them is of the one kind, or all are of the other
pub some_or_all : (P Q : ℕ → Type 0) → ((i : ℕ) → P i ⊎ Q i) → (n : ℕ) → ((i : ℕ) × (i < n) × P i) ⊎ ((i : ℕ) → i < n → Q i)
some_or_all P Q kind zero = inr (λ i l. absurd (omega arith))
some_or_all P Q kind (suc n) = go (some_or_all P Q kind n) (kind n)
  where
    go : ((i : ℕ) × (i < n) × P i) ⊎ ((i : ℕ) → i < n → Q i) → P n ⊎ Q n → ((i : ℕ) × (i < suc n) × P i) ⊎ ((i : ℕ) → i < suc n → Q i)
    go (inl (i, l, p)) here = inl (i, omega arith, p)
    go (inr all) (inl p) = inl (n, omega arith, p)
    go (inr all) (inr q) = inr (λ i l. below_more Q n all q i (omega arith))
