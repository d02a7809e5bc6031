-- The records one after the other: what the table of their processors comes to, and what is told by the table of another trace.
use Prim.Native.Nat.{ℕ, ◌+◌, ◌<◌, ◌≤◌}
use native.Mathlib.Omega.{arith}
use native.Mathlib.Numerals.{add-one}
use native.Mathlib.Decide.{ℕ_discrete}
use mathlib.Core.Path.{◌≡◌, refl, sym, ◌∙◌}
use mathlib.Core.Bool.{Bool, true, false, ◌||◌}
use mathlib.Core.List.{List, [], ◌∷◌}
use lib.ListN.{length, get_or, set, replicate, drop, length-set, length-replicate, get_or-replicate, drop_of_length-le}
use lib.Seq.{drop-cons, get_or-set_same, get_or-set_other}
use borrow.Author.Tests.{eq-eqb, ne_eqb}
use Rattle.paper.specs.Matching.{entry_at, is_on, no_entry}
use Rattle.paper.specs.Merging.{holds_on, share_one}
use Rattle.paper.specs.declared.Entry.{Entry}
use Rattle.store.specs.Layout.{entry_from, entries_in, On}
use Rattle.store.proofs.Laws.{length_entries, entry_in}
use Rattle.common.specs.Held.{Held}

-- what is left of the records of a store, from place i on
abbrev pub from : List ℕ → ℕ → ℕ → List Entry
from l n i = drop i (entries_in l n)

next : (l : List ℕ) (n i : ℕ) → i < n → from l n i ≡ entry_from l i ∷ from l n (i + 1)
next l n i i< =
    let here : get_or (entries_in l n) i no_entry ≡ entry_from l i = unfold entry_at in entry_in l n i i< in
    rw (add-one i, ← here) (drop-cons (entries_in l n) i no_entry (rw (length_entries l n) i<))

none_left : (l : List ℕ) (n i : ℕ) → n ≤ i → from l n i ≡ []
none_left l n i h = let all : length (entries_in l n) ≤ i = rw (length_entries l n) h in drop_of_length-le (entries_in l n) all

-- ---- the table of a trace, while its records are gone over

-- with what is left it tells of all
pub record Going (l : List ℕ) (n i : ℕ) (table : List Bool) : Type 0 where
  pub size : length table ≡ 64
  pub each : (p : ℕ) → p < 64 → (get_or table p false || holds_on p (from l n i)) ≡ holds_on p (entries_in l n)

module _ (l : List ℕ) (n : ℕ) where
  pub going_none : Going l n 0 (replicate 64 false)
  going_none =
      record { size = length-replicate 64 false; each = λ p p<. rw (get_or-replicate 64 p false false p<) }

  module _ {i : ℕ} {table : List Bool} (g : Going l n i table) where
    pub going_more : i < n → {q : ℕ} → On (entry_from l i) q → Going l n (i + 1) (set table q true)
    unfolding holds_on
    going_more i< {q} on = record { size = simp length-set g.size; each = λ p p<. go p p< (ℕ_discrete p q) }
      where
        with_next : (p : ℕ) → p < 64 → (get_or table p false || (is_on p (entry_from l i) || holds_on p (from l n (i + 1)))) ≡ holds_on p (entries_in l n)
        with_next p p< = rw (next l n i i<) at (g.each p p<)

        held_here : (a b : Bool) (all : Bool) → (a || (true || b)) ≡ all → true ≡ all
        held_here true b all e = e
        held_here false b all e = e

        go : (p : ℕ) → p < 64 → Dec (p ≡ q) → (get_or (set table q true) p false || holds_on p (from l n (i + 1))) ≡ holds_on p (entries_in l n)
        go p p< (yes z) =
            let its_own : is_on p (entry_from l i) ≡ true = eq-eqb (entry_from l i).body.processor p (sym on.is ∙ sym z) in
            let there : get_or (set table q true) p false ≡ true = rw z (get_or-set_same table q true false (omega (arith, g.size, on.low))) in
            rw there (held_here (get_or table p false) (holds_on p (from l n (i + 1))) _ (rw its_own at (with_next p p<)))
        go p p< (no z) =
            let another : is_on p (entry_from l i) ≡ false = ne_eqb (entry_from l i).body.processor p (λ w. z (sym w ∙ sym on.is)) in
            rw (get_or-set_other table q p true false z) (rw another at (with_next p p<))

    pub going_all : n ≤ i → Held (entries_in l n) table
    unfolding holds_on
    going_all h = record { all = g.size; each = λ p p<. end (get_or table p false) _ (rw (none_left l n i h) at (g.each p p<)) }
      where
        end : (a all : Bool) → (a || false) ≡ all → a ≡ all
        end true all e = e
        end false all e = e

-- ---- the records of another trace

-- what is left tells as much as all
pub record Telling (l : List ℕ) (n i : ℕ) (table : List Bool) : Type 0 where
  pub tells : (es : List Entry) → Held es table → share_one es (from l n i) ≡ share_one es (entries_in l n)

pub telling_all : (l : List ℕ) (n : ℕ) (table : List Bool) → Telling l n 0 table
telling_all l n table = record { tells = λ es held. refl }

module _ {l : List ℕ} {n i : ℕ} {table : List Bool} (t : Telling l n i table) where
  -- what the table says of the record that is next, and what is left behind it
  with_next : i < n → {p : ℕ} → On (entry_from l i) p → {b : Bool} → get_or table p false ≡ b → (es : List Entry) → Held es table
      → (b || share_one es (from l n (i + 1))) ≡ share_one es (entries_in l n)
  unfolding share_one
  with_next i< {p} on e es held =
      let told : get_or table p false ≡ holds_on (entry_from l i).body.processor es = rw (← on.is) (held.each p on.low) in
      rw (next l n i i<, sym told ∙ e) at (t.tells es held)

  pub shares_here : i < n → {p : ℕ} → On (entry_from l i) p → get_or table p false ≡ true
      → (es : List Entry) → Held es table → true ≡ share_one es (entries_in l n)
  shares_here i< on e es held = with_next i< on e es held

  pub telling_more : i < n → {p : ℕ} → On (entry_from l i) p → get_or table p false ≡ false → Telling l n (i + 1) table
  telling_more i< on e = record { tells = with_next i< on e }

  pub shares_none : n ≤ i → (es : List Entry) → Held es table → false ≡ share_one es (entries_in l n)
  unfolding share_one
  shares_none h es held = rw (none_left l n i h) at (t.tells es held)
