-- The search along the records, and what a word names.
use Rattle.std.specs.Prelude.{Option, Some, None}
use Prim.Native.Nat.{ℕ, suc, ◌+◌, ◌≤◌, ◌<◌}
use mathlib.Core.Path.{◌≡◌, sym, ◌∙◌}
use mathlib.Core.List.{List, [], ◌∷◌}
use native.Mathlib.Numerals.{add-one}
use native.Mathlib.Omega.{arith}
use lib.ListN.{drop, drop_of_length-le}
use lib.Seq.{drop-cons}
use borrow.Author.Tests.{eq-eqb, ne_eqb}
use Rattle.paper.specs.Matching.{entry_at, no_entry}
use Rattle.paper.specs.declared.Entry.{Entry}
use Rattle.store.specs.Layout.{entries_in, entry_from}
use Rattle.store.proofs.Laws.{length_entries, entry_in}
use Rattle.numeral.specs.Numeral.{natural_in}
use Rattle.lookup.specs.Place.{place_from, place_by, place_on}

-- ---- the search

-- the invariant: what is left gives with what was gone over the whole
pub record Going (store : List ℕ) (listed line i : ℕ) : Type 0 where
  pub gives : i + place_from line (drop i (entries_in store listed)) ≡ place_from line (entries_in store listed)
  pub inside : i ≤ listed

pub begins : (store : List ℕ) (listed line : ℕ) → Going store listed line 0
begins store listed line = record { gives = omega arith; inside = omega arith }

module _ {store : List ℕ} {listed line i : ℕ} (g : Going store listed line i) where
  abbrev es : List Entry
  es = entries_in store listed

  module _ (h : i < listed) {found : ℕ} (is : found ≡ (entry_from store i).line) where
    cut : drop i es ≡ (entry_from store i ∷ drop (suc i) es)
    unfolding entry_at
    cut = drop-cons es i no_entry (omega (arith, h, length_entries store listed)) ∙ rw (entry_in store listed i h)

    pub here : found ≡ line → i ≡ place_from line es
    unfolding place_from
    here e =
        let q = rw cut at g.gives in
        let t = eq-eqb (entry_from store i).line line (sym is ∙ e) in
        let z : place_from line (entry_from store i ∷ drop (suc i) es) ≡ 0 = rw t in
        omega (arith, q, z)

    pub goes_on_lem : (found ≡ line → ⊥) → Going store listed line (i + 1)
    unfolding place_from
    goes_on_lem n =
        let q = rw cut at g.gives in
        let t = ne_eqb (entry_from store i).line line (λ e. n (is ∙ e)) in
        let z : place_from line (entry_from store i ∷ drop (suc i) es) ≡ suc (place_from line (drop (suc i) es)) = rw t in
        record { gives = rw (add-one i) (omega (arith, q, z)); inside = omega arith }

  pub nowhere : listed ≤ i → listed ≡ place_from line es
  unfolding place_from
  nowhere h =
      let z : drop i es ≡ [] = drop_of_length-le es {i = i} (omega (arith, h, length_entries store listed)) in
      let q = rw z at g.gives in
      omega (arith, q, g.inside, h)

-- ---- the word

module _ (word : List ℕ) (store : List ℕ) (listed : ℕ) {named : Option ℕ} (is : named ≡ natural_in word) where
  pub on_line_lem : {line place : ℕ} → named ≡ Some line → place ≡ place_from line (entries_in store listed) → place ≡ place_on word (entries_in store listed)
  unfolding place_on place_by
  on_line_lem e p = rw (sym is ∙ e) p

  pub on_none : named ≡ None → listed ≡ place_on word (entries_in store listed)
  unfolding place_on place_by
  on_none e = rw (sym is ∙ e) (sym (length_entries store listed))
