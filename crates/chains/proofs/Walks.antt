-- First and last, and the walks along a chain that find them. A chain goes by a test q that a test p implies.
use Prim.Native.Nat.{ℕ, suc, ◌+◌, ◌-◌, ◌≤◌, ◌<◌}
use native.Mathlib.Omega.{arith}
use native.Mathlib.Decide.{dec_lt}
use mathlib.Core.Path.{◌≡◌}
use mathlib.Core.Bool.{Bool, true, false}
use mathlib.Core.List.{List}
use lib.ListN.{get_or}
use Rattle.chains.specs.Chains.{First, Last}

-- ---- one more in front, one more behind

module _ (p : ℕ → Bool) (i : ℕ) where
  pub first_here : (n : ℕ) → i < n → p i ≡ true → First p n i i
  first_here n h e = record { from = omega arith; upto = omega arith; none = λ k a b. absurd (omega arith); here = λ l. e }

  pub first_earlier : (n j : ℕ) → p i ≡ false → First p n (i + 1) j → First p n i j
  first_earlier n j e f =
      record { from = omega (arith, f.from); upto = f.upto; none = λ k a b. go k a b (dec_lt i k); here = f.here }
    where
      go : (k : ℕ) → i ≤ k → k < j → Dec (i < k) → p k ≡ false
      go k a b (yes l) = f.none k (omega arith) b
      go k a b (no l) = let z : k ≡ i = omega arith in rw z e

  pub last_here : p i ≡ true → Last p (i + 1) (i + 1)
  last_here e = record { upto = omega arith; none = λ k a b. absurd (omega arith); here = λ k s. let z : k ≡ i = omega arith in rw z e }

  pub last_later : (j : ℕ) → p i ≡ false → Last p i j → Last p (i + 1) j
  last_later j e f =
      record { upto = omega (arith, f.upto); none = λ k a b. go k a b (dec_lt k i); here = f.here }
    where
      go : (k : ℕ) → j ≤ k → k < i + 1 → Dec (k < i) → p k ≡ false
      go k a b (yes l) = f.none k a l
      go k a b (no l) = let z : k ≡ i = omega arith in rw z e

-- ---- forwards

-- a walk from `at` that has come to s: nothing before s passes p, and s is on the chain
pub record Going (p q : ℕ → Bool) (n at s : ℕ) : Type 0 where
  pub low : at ≤ s
  pub high : s ≤ n
  pub none : (k : ℕ) → at ≤ k → k < s → p k ≡ false
  pub on : s < n → q s ≡ true

module _ (p q : ℕ → Bool) (n at s : ℕ) (g : Going p q n at s) where
  pub goes_on_lem : (t : ℕ) → ((k : ℕ) → q k ≡ false → p k ≡ false) → p s ≡ false → First q n (s + 1) t → Going p q n at t
  goes_on_lem t hidden e f =
      record { low = omega (arith, g.low, f.from); high = f.upto; none = λ k a b. go k a b (dec_lt k s) (dec_lt s k); on = f.here }
    where
      go : (k : ℕ) → at ≤ k → k < t → Dec (k < s) → Dec (s < k) → p k ≡ false
      go k a b (yes l) d = g.none k a l
      go k a b (no l) (yes m) = hidden k (f.none k (omega arith) b)
      go k a b (no l) (no m) = let z : k ≡ s = omega arith in rw z e

  pub comes_to : p s ≡ true → First p n at s
  comes_to e = record { from = g.low; upto = g.high; none = g.none; here = λ l. e }

  pub comes_out : n ≤ s → First p n at s
  comes_out h = record { from = g.low; upto = g.high; none = g.none; here = λ l. absurd (omega arith) }

-- ---- backwards

pub record Going-back (p q : ℕ → Bool) (from s : ℕ) : Type 0 where
  pub high : s ≤ from
  pub none : (k : ℕ) → s ≤ k → k < from → p k ≡ false
  pub on : (k : ℕ) → s ≡ suc k → q k ≡ true

module _ (p q : ℕ → Bool) (from s : ℕ) (g : Going-back p q from s) where
  pub goes_back : (t : ℕ) → 0 < s → ((k : ℕ) → q k ≡ false → p k ≡ false) → p (s - 1) ≡ false → Last q (s - 1) t
      → Going-back p q from t
  goes_back t h hidden e f =
      record { high = omega (arith, g.high, f.upto); none = λ k a b. go k a b (dec_lt k (s - 1)) (dec_lt (s - 1) k); on = f.here }
    where
      go : (k : ℕ) → t ≤ k → k < from → Dec (k < s - 1) → Dec (s - 1 < k) → p k ≡ false
      go k a b (yes l) d = hidden k (f.none k a l)
      go k a b (no l) (yes m) = g.none k (omega arith) b
      go k a b (no l) (no m) = let z : k ≡ s - 1 = omega arith in rw z e

  pub comes_back_to : 0 < s → p (s - 1) ≡ true → Last p from s
  comes_back_to h e =
      record { upto = g.high; none = g.none; here = λ k z. let y : k ≡ s - 1 = omega arith in rw y e }

  pub comes_back_out : s ≤ 0 → Last p from 0
  comes_back_out h =
      record { upto = omega arith; none = λ k a b. g.none k (omega arith) b; here = λ k z. absurd (omega arith) }

-- a walk along links, each to the last before it that passes q, in search of one that passes p
module _ (p q : ℕ → Bool) (link : List ℕ) (from : ℕ) (backed : (j : ℕ) → j < from → q j ≡ true → Last q j (get_or link j 0)) where
  pub back_begins : ((k : ℕ) → from ≡ suc k → q k ≡ true) → Going-back p q from from
  back_begins here = record { high = omega arith; none = λ k a b. absurd (omega arith); on = here }

  module _ (s : ℕ) (g : Going-back p q from s) (m : 0 < s) where
    linked_before : Last q (s - 1) (get_or link (s - 1) 0)
    linked_before = backed (s - 1) (omega (arith, g.high)) (g.on (s - 1) (omega arith))

    pub back_less : get_or link (s - 1) 0 < s
    back_less = omega (arith, linked_before.upto)

    pub back_turns : ((k : ℕ) → q k ≡ false → p k ≡ false) → p (s - 1) ≡ false → Going-back p q from (get_or link (s - 1) 0)
    back_turns hidden e = goes_back p q from s g (get_or link (s - 1) 0) m hidden e linked_before
