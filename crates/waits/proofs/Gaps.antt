-- The gaps that are kept, of the records of a store: how they are computed, that the table of the records before gives those of the paper, and
-- that none is wider than any between two times of a trace.
use Rattle.std.specs.Prelude.{Option, Some, None}
use Prim.Native.Nat.{ℕ, ◌+◌, ◌*◌, ◌/◌, ◌%◌, ◌≤◌, ◌<◌, ◌^◌}
use native.Mathlib.Omega.{arith}
use native.Mathlib.Nat.{mul-le-mul, mul-le-mul_right, mul-add, mul_left_comm, div-add-mod}
use mathlib.Core.Path.{◌≡◌, refl, sym, ap, ◌∙◌}
use mathlib.Core.List.{List}
use mathlib.Core.Bool.{true}
use lib.IntN.{ℤ, pos, negsuc}
use lib.ListN.{length, get_or}
use borrow.Author.Tests.{le-leb, lt-leb}
use Rattle.paper.specs.Tests.{all_up_to}
use Rattle.paper.specs.Gaps.{apart, gap_of}
use Rattle.paper.specs.Clock.{listed}
use Rattle.paper.specs.Matching.{entry_at, last_on, gap_from}
use Rattle.paper.specs.declared.Entry.{Entry}
use Rattle.forms.proofs.Bounded.{bounded_told}
use Rattle.reading.specs.Tidy.{InRange}
use Rattle.matching.proofs.Belong.{processor_at}
use Rattle.rounds.proofs.Gaps.{gap_none, gap_whole, gap_more}
use Rattle.store.specs.Layout.{entry_from, entries_in}
use Rattle.store.proofs.Laws.{entry_in}
use Rattle.store.proofs.Listed.{length_listed, listed_at, listed_same}
use Rattle.engine.specs.Promise.{place, widest}
use Rattle.engine.proofs.Waiting.{place_at, place_none}
use Rattle.waits.specs.Tables.{gap_at, befores_of, gaps_of, gaps_by, gaps_into}
use Rattle.waits.proofs.Closed.{before_within}
use Rattle.waits.proofs.Same.{places_back}

-- ---- by the thousands and the rest

module _ (share n : ℕ) where
  pub thousands : share * (n / 1000) + share * (n % 1000) / 1000 ≡ share * n / 1000
  thousands =
      let parts : share * n ≡ 1000 * (share * (n / 1000)) + share * (n % 1000) =
      ap (λ (m : ℕ). share * m) (sym (div-add-mod n 1000)) ∙ mul-add share (1000 * (n / 1000)) (n % 1000)
      ∙ ap (λ (m : ℕ). m + share * (n % 1000)) (mul_left_comm share 1000 (n / 1000)) in
      omega arith

  module _ (few : share ≤ 1000) (fits : n < 2 ^ 64) where
    pub whole_fits : share * (n / 1000) < 2 ^ 64
    whole_fits = omega (arith, mul-le-mul_right (n / 1000) few)

    pub rest_fits : share * (n % 1000) < 2 ^ 64
    rest_fits = omega (arith, mul-le-mul {n₁ = share} {m₁ = n % 1000} {n₂ = 1000} {m₂ = 999} few (omega arith))

    pub sum_fits : share * (n / 1000) + share * (n % 1000) / 1000 < 2 ^ 64
    sum_fits = rw thousands (omega (arith, mul-le-mul_right n few))

-- ---- in a table

module _ (l : List ℕ) (share n i : ℕ) (inside : i < n) where
  abbrev es : List Entry
  es = entries_in l n

  pub gap_first : {j : ℕ} → n ≤ j → 0 ≡ gap_from share es i (place n j)
  unfolding gap_from
  gap_first out = rw (place_none out)

  pub gap_stored : {j : ℕ} → j < n → {before own : ℤ} → before ≡ (entry_from l j).body.time → own ≡ (entry_from l i).body.time
      → {r : ℕ} → r ≡ gap_of share before own → r ≡ gap_from share es i (place n j)
  unfolding gap_from
  gap_stored {j} there {before} {own} b o e =
      rw (place_at there)
      (e ∙ ap (λ (z : ℤ). gap_of share z own) (b ∙ sym (ap (λ (x : Entry). x.body.time) (entry_in l n j there)))
      ∙ ap (gap_of share _) (o ∙ sym (ap (λ (x : Entry). x.body.time) (entry_in l n i inside))))

module _ (store before out : List ℕ) where
  pub gaps_share : {share : ℕ} → share ≤ 1000 → gaps_by share (entries_in store (length out)) before ≡ gaps_into share store before out
  unfolding gaps_into
  gaps_share {share} h = rw (le-leb share 1000 h)

  pub gaps_kept : {share : ℕ} → 1000 < share → out ≡ gaps_into share store before out
  unfolding gaps_into
  gaps_kept {share} h = rw (lt-leb share 1000 h)

-- by the records before, they are the paper's
module _ (share : ℕ) (es : List Entry) where
  pub gaps_at : (i : ℕ) → i < length es → get_or (gaps_of share es) i 0 ≡ gap_at share es i
  unfolding gaps_of
  gaps_at i l = listed_at (length es) (gap_at share es) i 0 l

  pub gaps_are : gaps_by share es (befores_of es) ≡ gaps_of share es
  unfolding gaps_by gaps_of befores_of
  gaps_are =
      listed_same (length es) _ _
      (λ i l. ap (gap_from share es i) (places_back (length es) (λ k. last_on es (processor_at es k) k) i l (λ j. before_within es (processor_at es i) i j l)))

  -- ---- narrow

  apart_narrow : (a b : ℤ) → InRange a → InRange b → apart a b ≤ widest
  apart_narrow (pos m) (pos n) h k = omega arith
  apart_narrow (pos m) (negsuc n) h k = omega arith
  apart_narrow (negsuc m) (pos n) h k = omega arith
  apart_narrow (negsuc m) (negsuc n) h k = omega arith

  module _ (few : share ≤ 1000) (held : (k : ℕ) → k < length es → InRange (entry_at es k).body.time) where
    from_narrow : (i : ℕ) → i < length es → (o : Option ℕ) → ((j : ℕ) → o ≡ Some j → j < length es) → gap_from share es i o ≤ widest
    unfolding gap_from
    from_narrow i l None within = omega arith
    from_narrow i l (Some j) within =
        let whole = rw (gap_whole (entry_at es j).body.time (entry_at es i).body.time) at (gap_more share 1000 (entry_at es j).body.time (entry_at es i).body.time few) in
        omega (arith, whole, apart_narrow (entry_at es j).body.time (entry_at es i).body.time (held j (within j refl)) (held i l))

    pub gap_narrow : (i : ℕ) → i < length es → gap_at share es i ≤ widest
    gap_narrow i l = from_narrow i l _ (λ j. before_within es (processor_at es i) i j l)

    pub gaps_narrow : all_up_to widest (gaps_of share es) ≡ true
    unfolding gaps_of
    gaps_narrow =
        bounded_told widest (listed (length es) (gap_at share es))
        (λ k l. let inside : k < length es = rw (length_listed (length es) (gap_at share es)) at l in
        rw (listed_at (length es) (gap_at share es) k 0 inside) (gap_narrow k inside))

-- at a share of 0 none is kept
pub nothing_kept : (es : List Entry) (i : ℕ) → gap_at 0 es i ≡ 0
unfolding gap_from
nothing_kept es i = go (last_on es (processor_at es i) i)
  where
    go : (o : Option ℕ) → gap_from 0 es i o ≡ 0
    go None = refl
    go (Some j) = gap_none _ _
