-- Totals: where nothing more passes they stay, and with a record more they grow by what it weighs.
use Rattle.std.proofs.Common.{◌≡◌, ℕ, zero, suc, ◌+◌, ◌<◌, ◌≤◌, Bool, true, false, cond, List, ◌∙◌, arith}
use native.Mathlib.Decide.{dec_lt}
use Rattle.paper.specs.declared.Entry.{Entry}
use Rattle.store.specs.Layout.{entry_from}
use Rattle.chains.specs.Chains.{Last}
use Rattle.statistics.specs.Totals.{one, total}

module _ (test : Entry → Bool) (l : List ℕ) where
  module _ (weight : Entry → ℕ) where
    -- a record that does not pass adds nothing
    pub total_without : (i : ℕ) → test (entry_from l i) ≡ false → total weight test l (suc i) ≡ total weight test l i
    unfolding total
    total_without i e = rw e

    -- and one that does adds its weight
    pub total_with : (i : ℕ) → test (entry_from l i) ≡ true → total weight test l (suc i) ≡ weight (entry_from l i) + total weight test l i
    unfolding total
    total_with i e = rw e

    -- behind the last that passes there is nothing more
    pub total_last : (i j : ℕ) → Last (λ k. test (entry_from l k)) i j → total weight test l i ≡ total weight test l j
    total_last zero j f = let z : j ≡ 0 = omega (arith, f.upto) in rw z
    total_last (suc i) j f = go (total_last i j) (dec_lt i j)
      where
        go : (Last (λ k. test (entry_from l k)) i j → total weight test l i ≡ total weight test l j) → Dec (i < j)
            → total weight test l (suc i) ≡ total weight test l j
        go more (yes h) = let z : j ≡ suc i = omega (arith, f.upto) in rw z
        go more (no h) =
            total_without i (f.none i (omega arith) (omega arith))
            ∙ more (record { upto = omega arith; none = λ k a b. f.none k a (omega arith); here = f.here })

  -- there are no more than there are records
  pub count_low : (i : ℕ) → total one test l i ≤ i
  unfolding total
  count_low zero = omega arith
  count_low (suc i) = go (test (entry_from l i)) (count_low i)
    where
      go : (t : Bool) → total one test l i ≤ i → cond t (1 + total one test l i) (total one test l i) ≤ suc i
      go true h = omega arith
      go false h = omega arith
