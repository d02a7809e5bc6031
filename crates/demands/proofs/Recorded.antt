-- A reading that comes to its end lists the listed lines, in file order, and counts those that are passed over.
use Prim.Native.Nat.{ℕ, ◌+◌}
use native.Mathlib.Omega.{arith}
use mathlib.Core.Path.{◌≡◌, refl, ap}
use mathlib.Core.List.{List, ◌∷◌}
use Rattle.paper.specs.Reading.{Lines, State, with_passed, with_listed}
use Rattle.paper.specs.declared.Choice.{Choice}
use Rattle.paper.specs.declared.Entry.{Entry}
use Rattle.reading.proofs.Along.{Reads, ends, passes, lists}
use Rattle.demands.specs.Records.{listed_first, records_from, passed_first, passed_in}

module _ (choice : Choice) (most : ℕ) where
  pub records_along : {x : Lines} {n : ℕ} {st st₁ : State} {es : List Entry} → Reads choice most x n st es st₁ → es ≡ records_from choice n x
  unfolding records_from listed_first
  records_along ends = refl
  records_along (passes p more) = rw p (records_along more)
  records_along (lists {n = n} {r = r} p above room more) = rw p (ap (λ (l : List Entry). record { line = n; body = r } ∷ l) (records_along more))

  pub passed_along : {x : Lines} {n : ℕ} {st st₁ : State} {es : List Entry} → Reads choice most x n st es st₁
      → st₁.passed ≡ st.passed + passed_in choice x
  unfolding passed_in passed_first with_passed with_listed
  passed_along ends = omega arith
  passed_along (passes p more) = rw p (omega (arith, passed_along more))
  passed_along (lists p above room more) = rw p (passed_along more)
