-- A number's fewest digits are those that it is shown in.
use Prim.Native.Nat.{ℕ, zero, suc, ◌+◌, ◌-◌, ◌≤◌, ◌<◌, ◌^◌}
use mathlib.Core.Path.{◌≡◌, refl}
use mathlib.Core.Bool.{Bool, true, false}
use native.Mathlib.Omega.{arith}
use native.Mathlib.Nat.{pow-le-pow_right}
use lib.Dec.{leb}
use borrow.Author.Tests.{leb-true, leb-false, le-leb, lt-leb}
use Rattle.io.specs.Digits.{last_digits, IsDigitCount}
use Rattle.paper.specs.Forms.{places_from}
use Rattle.report.specs.Report.{shown}

module _ (j n k : ℕ) (most : k ≤ suc j + 1) (below : n < 10 ^ k) (above : 1 < k → 10 ^ (k - 1) ≤ n) (rest : k ≤ j + 1 → places_from j n ≡ k) where
  step : (t : Bool) → leb k (suc j) ≡ t → places_from (suc j) n ≡ k
  unfolding places_from
  step true e =
      let h : k ≤ suc j = leb-true k (suc j) e in
      let p : 10 ^ k ≤ 10 ^ suc j = pow-le-pow_right (omega arith) h in
      rw (lt-leb (10 ^ suc j) n (omega arith)) (rest (omega arith))
  step false e =
      let h : suc j < k = leb-false k (suc j) e in
      let q : k - 1 ≡ suc j = omega arith in
      rw (le-leb (10 ^ suc j) n (rw q at (above (omega arith)))) (omega arith)

-- as many digits as the number asks for, where the search for them begins high enough
pub places : (j n k : ℕ) → 1 ≤ k → k ≤ j + 1 → n < 10 ^ k → (1 < k → 10 ^ (k - 1) ≤ n) → places_from j n ≡ k
unfolding places_from
places zero n k l m h f = omega arith
places (suc j) n k l m h f = step j n k m h f (λ g. places j n k l g h f) (leb k (suc j)) refl

-- a number of 64 bits has at most twenty digits, and is shown in the fewest that hold it
module _ (n k : ℕ) (fits : n < 2 ^ 64) (fewest : IsDigitCount 10 1 n k) where
  bounded : (t : Bool) → leb k 20 ≡ t → k ≤ 20
  bounded true e = leb-true k 20 e
  bounded false e =
      let h : 20 < k = leb-false k 20 e in
      let p : 10 ^ 20 ≤ 10 ^ (k - 1) = let g : 20 ≤ k - 1 = omega arith in pow-le-pow_right (omega arith) g in
      let q : 10 ^ (k - 1) ≤ n = fewest.2 (omega arith) in
      omega arith

  pub twenty : k ≤ 20
  twenty = bounded (leb k 20) refl

  pub shown_is : last_digits 10 k n ≡ shown n
  unfolding shown
  shown_is = rw (places 19 n k fewest.0 twenty fewest.1 fewest.2)
