-- The steps to the record before, laid out while the records are gone over.
use Prim.Native.Nat.{ℕ, ◌≤◌, ◌<◌}
use native.Mathlib.Omega.{arith}
use mathlib.Core.Path.{◌≡◌, sym, ap, ◌∙◌}
use mathlib.Core.List.{List}
use borrow.Author.Tests.{lt-ltb, le-ltb, le-leb, lt-leb}
use lib.ListN.{length, get_or}
use lib.IntN.{ℤ}
use Rattle.paper.specs.Clock.{listed}
use Rattle.paper.specs.Matching.{last_on, gap_from}
use Rattle.paper.specs.declared.Entry.{Entry}
use Rattle.matching.proofs.Belong.{processor_at}
use Rattle.engine.specs.Promise.{place}
use Rattle.waits.proofs.Closed.{before_within}
use Rattle.waits.proofs.Same.{place_back}
use Rattle.waits.proofs.Gaps.{gaps_at}
use Rattle.store.specs.Layout.{too_many, entries_in}
use Rattle.store.proofs.Laws.{length_entries}
use Rattle.store.proofs.Listed.{length_listed, listed_at, listed_same}
use Rattle.waits.specs.Tables.{before_at, gap_at, befores_of, gaps_of}
use Rattle.steps.specs.Tables.{exact_at, exact_table, processor_steps}

module _ (store : List ℕ) (times : List ℤ) (share n : ℕ) where
  -- the step of record i
  abbrev pub step_at : ℕ → ℕ
  step_at i = exact_at times (gap_at share (entries_in store n) i) n i (before_at (entries_in store n) i)

  befores_long : length (befores_of (entries_in store n)) ≡ n
  unfolding befores_of
  befores_long = length_listed (length (entries_in store n)) (before_at (entries_in store n)) ∙ length_entries store n

  before_here : (i : ℕ) → i < n → get_or (befores_of (entries_in store n)) i 0 ≡ before_at (entries_in store n) i
  unfolding befores_of
  before_here i i< = listed_at (length (entries_in store n)) (before_at (entries_in store n)) i 0 (omega (arith, length_entries store n, i<))

  gap_here : (i : ℕ) → i < n → get_or (gaps_of share (entries_in store n)) i 0 ≡ gap_at share (entries_in store n) i
  gap_here i i< = gaps_at share (entries_in store n) i (omega (arith, length_entries store n, i<))

  pub steps_table : listed n step_at ≡ exact_table times (gaps_of share (entries_in store n)) n (befores_of (entries_in store n))
  unfolding exact_table
  steps_table = rw befores_long (listed_same n step_at _ (λ i i<. rw (gap_here i i<, before_here i i<)))

  -- from the last place of its processor, record i goes to the one before it, by the gap that it keeps from there
  pub step_here : (i : ℕ) → i < n → {j gap step : ℕ} → j ≡ before_at (entries_in store n) i → gap ≡ gap_from share (entries_in store n) i (place n j)
      → step ≡ exact_at times gap n i j → step ≡ step_at i
  step_here i i< j-is gap_is e =
      let es = entries_in store n in
      let i<es : i < length es = omega (arith, length_entries store n, i<) in
      let o = last_on es (processor_at es i) i in
      let back : place n (before_at es i) ≡ o =
      ap (λ (m : ℕ). place m (before_at es i)) (sym (length_entries store n)) ∙ place_back (length es) o (λ j. before_within es (processor_at es i) i j i<es) in
      e ∙ rw (gap_is, j-is, back)

module _ (store : List ℕ) (times : List ℤ) (share : ℕ) (out : List ℕ) where
  abbrev es : List Entry
  es = entries_in store (length out)

  pub steps_few : length out < too_many → share ≤ 1000
      → processor_steps store times share out ≡ exact_table times (gaps_of share es) (length out) (befores_of es)
  unfolding processor_steps
  steps_few l few = rw (lt-ltb (length out) too_many l, le-leb share 1000 few)

  pub steps_kept : too_many ≤ length out → processor_steps store times share out ≡ out
  unfolding processor_steps
  steps_kept l = rw (le-ltb (length out) too_many l)

  pub steps_high : length out < too_many → 1000 < share → processor_steps store times share out ≡ out
  unfolding processor_steps
  steps_high l high = rw (lt-ltb (length out) too_many l, lt-leb share 1000 high)
