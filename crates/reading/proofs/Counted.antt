-- What a reading that comes to its end has counted: each line has its LF, and was listed or passed over.
use Prim.Native.Nat.{ℕ, ◌+◌}
use native.Mathlib.Omega.{arith}
use mathlib.Core.Path.{◌≡◌}
use mathlib.Core.List.{List}
use lib.ListN.{length}
use Rattle.paper.specs.Reading.{Lines, State, with_passed, with_listed}
use Rattle.paper.specs.declared.Choice.{Choice}
use Rattle.paper.specs.declared.Entry.{Entry}
use Rattle.reading.specs.Joined.{AllEnded, line_count}
use Rattle.reading.proofs.Along.{Reads, ends, passes, lists}

module _ {choice : Choice} {most : ℕ} where
  pub all_ended : {x : Lines} {n : ℕ} {st st₁ : State} {es : List Entry} → Reads choice most x n st es st₁ → AllEnded x
  unfolding AllEnded
  all_ended ends = tt
  all_ended (passes p more) = all_ended more
  all_ended (lists p above room more) = all_ended more

  pub listed_count : {x : Lines} {n : ℕ} {st st₁ : State} {es : List Entry} → Reads choice most x n st es st₁
      → st₁.listed ≡ st.listed + length es
  unfolding with_passed with_listed
  listed_count ends = omega arith
  listed_count (passes p more) = listed_count more
  listed_count (lists p above room more) = omega (arith, listed_count more)

  pub line_count_lem : {x : Lines} {n : ℕ} {st st₁ : State} {es : List Entry} → Reads choice most x n st es st₁
      → length es + st₁.passed ≡ line_count x + st.passed
  unfolding with_passed with_listed line_count
  line_count_lem ends = omega arith
  line_count_lem (passes p more) = omega (arith, line_count_lem more)
  line_count_lem (lists p above room more) = omega (arith, line_count_lem more)
