-- The last place of each processor so far, where the entries are those of a store.
use Prim.Native.Nat.{ℕ, ◌+◌, ◌<◌}
use mathlib.Core.Path.{◌≡◌, sym}
use mathlib.Core.List.{List}
use lib.ListN.{length, get_or, set, replicate}
use borrow.Author.Tests.{eq-eqb, ne_eqb}
use Rattle.paper.specs.Matching.{entry_at, is_on}
use Rattle.paper.specs.declared.Entry.{Entry}
use Rattle.matching.proofs.EachLast.{EachLast, each_none, each_more}
use Rattle.store.specs.Layout.{entry_from, entries_in, On}
use Rattle.store.proofs.Laws.{length_entries, entry_in}
use Rattle.waits.specs.Tables.{before_at}

-- of each processor the place of the last of the first i entries that is on it
abbrev pub Lasts : List Entry → ℕ → List ℕ → Type 0
Lasts es i last = EachLast is_on (length es) es i last

pub last_none : (l : List ℕ) (n : ℕ) → Lasts (entries_in l n) 0 (replicate 64 n)
last_none l n = rw (length_entries l n) (each_none is_on n (entries_in l n))

module _ (l : List ℕ) (n : ℕ) {i : ℕ} {last : List ℕ} (h : Lasts (entries_in l n) i last) (i< : i < n) {p : ℕ} (on : On (entry_from l i) p) where
  abbrev es : List Entry
  es = entries_in l n

  here : p ≡ (entry_at es i).body.processor
  here = rw (entry_in l n i i<) on.is

  -- what stands there for the processor of entry i is the place of the record before it
  pub last_before : get_or last p 0 ≡ before_at es i
  last_before = rw (← here) (h.each p on.low)

  -- entry i is then the last on its processor, and no other processor is touched
  pub last_more : Lasts es (i + 1) (set last p i)
  last_more =
      each_more is_on (length es) es (λ q e z. ne_eqb e.body.processor q (λ w. z (sym w))) h here on.low i
      (rw (eq-eqb (entry_at es i).body.processor p (sym here)))
