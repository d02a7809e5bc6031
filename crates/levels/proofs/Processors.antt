-- The processors one after the other: what the tables of their last records and marks come to.
use Rattle.std.specs.Prelude.{Option, Result, Some, None, Ok, option_map, unwrap_or}
use Prim.Native.Nat.{ℕ, suc, ◌+◌, ◌-◌, ◌<◌, ◌≤◌}
use native.Mathlib.Omega.{arith}
use native.Mathlib.Numerals.{add-one}
use mathlib.Core.Path.{◌≡◌, refl, sym, ◌∙◌}
use mathlib.Core.Bool.{Bool, true, false, cond, not}
use mathlib.Core.List.{List}
use lib.ListN.{get_or, set, replicate}
use borrow.Author.Tests.{eq-eqb, ne_eqb}
use Rattle.paper.specs.Matching.{entry_at, is_on, last_on}
use Rattle.paper.specs.Columns.{whole_line, refused_at}
use Rattle.paper.specs.Levels.{counts, is_mark, last_mark, expected, agrees, off_at, on_off, levels_from, levels_of}
use Rattle.paper.specs.declared.Asked.{Asked}
use Rattle.paper.specs.declared.Data.{Data}
use Rattle.paper.specs.declared.Entry.{Entry}
use Rattle.paper.specs.declared.Fault.TheVariants as Fault
use Rattle.paper.specs.declared.Site.{Site}
use Rattle.matching.proofs.EachLast.{EachLast, each_none, each_more}
use Rattle.matching.proofs.Last.{last_of_lem}
use Rattle.store.specs.Layout.{entry_from, entries_in, On}
use Rattle.store.proofs.Laws.{length_entries, entry_in}
use Rattle.levels.specs.Seen.{Seen, off_by}
use Rattle.paper.specs.declared.Refusal.{Refusal}

-- ---- the tables, while the records are gone over

pub record Going (l : List ℕ) (n i : ℕ) (last mark : List ℕ) : Type 0 where
  pub few : i ≤ n
  pub lasts : EachLast is_on n (entries_in l n) i last
  pub marks : EachLast is_mark n (entries_in l n) i mark

module _ (l : List ℕ) (n : ℕ) where
  pub going_none : Going l n 0 (replicate 64 n) (replicate 64 n)
  going_none =
      record { few = omega arith; lasts = each_none is_on n (entries_in l n); marks = each_none is_mark n (entries_in l n) }

  module _ {i : ℕ} {last mark : List ℕ} (g : Going l n i last mark) where
    pub going_more : i < n → {p : ℕ} → On (entry_from l i) p → (k : ℕ) → k ≡ cond (counts (entry_from l i).body) i (get_or mark p 0)
        → Going l n (i + 1) (set last p i) (set mark p k)
    going_more i< {p} on k is =
        let es = entries_in l n in
        let here : p ≡ (entry_at es i).body.processor = rw (entry_in l n i i<) on.is in
        let its_own = eq-eqb (entry_at es i).body.processor p (sym here) in
        record {
          few = omega arith;
          lasts = each_more is_on n es (λ q e z. other q e z) g.lasts here on.low i (rw its_own);
          marks = each_more is_mark n es (λ q e z. rw (other q e z)) g.marks here on.low k (rw (its_own, entry_in l n i i<) is);
        }
      where
        other : (q : ℕ) (e : Entry) → ¬ (q ≡ e.body.processor) → is_on q e ≡ false
        other q e z = ne_eqb e.body.processor q (λ w. z (sym w))

    pub seen : n ≤ i → Seen l n last mark
    seen h =
        let all : i ≡ n = omega (arith, g.few) in
        record {
          lasts = g.lasts.size;
          marks = g.marks.size;
          each_last = λ p p<. rw all at (g.lasts.each p p<);
          each_mark = λ p p<. rw all at (g.marks.each p p<);
        }

-- ---- one processor

module _ (a : Asked) (l : List ℕ) (n last mark : ℕ) where
  pub no_record : last ≡ n → false ≡ off_by a l n last mark
  unfolding off_by
  no_record e = rw (eq-eqb last n e)

  module _ (some-record : last ≡ n → ⊥) where
    pub no_mark : mark ≡ n → true ≡ off_by a l n last mark
    unfolding off_by
    no_mark e = rw (ne_eqb last n some-record, eq-eqb mark n e)

    pub by_mark : (mark ≡ n → ⊥) → {values : Data} {told : Bool} → values ≡ (entry_from l mark).body.values → told ≡ expected a values
        → not told ≡ off_by a l n last mark
    unfolding off_by
    by_mark some-mark v e = rw (ne_eqb last n some-record, ne_eqb mark n some-mark, e, v)

module _ (a : Asked) (l : List ℕ) (n : ℕ) where
  abbrev es : List Entry
  es = entries_in l n

  -- its last record, or none, and its last mark, or none
  by_places : (x y : Option ℕ) → ((k : ℕ) → x ≡ Some k → k < n) → ((k : ℕ) → y ≡ Some k → k < n)
      → cond (agrees a es y) None (option_map (λ k. (entry_at es k).line) x)
      ≡ cond (off_by a l n (unwrap_or x n) (unwrap_or y n)) (Some (entry_from l (unwrap_or x n)).line) None
  unfolding agrees off_by
  by_places None y x< y< = rw (eq-eqb n n refl) (go (agrees a es y))
    where
      go : (t : Bool) → ◌≡◌ {A = Option ℕ} (cond t None None) None
      go true = refl
      go false = refl
  by_places (Some k) None x< y< = let k< = x< k refl in rw (ne_eqb k n (λ e. absurd (omega arith)), eq-eqb n n refl, entry_in l n k k<)
  by_places (Some k) (Some j) x< y< =
      let k< = x< k refl in
      let j< = y< j refl in
      rw (ne_eqb k n (λ e. absurd (omega arith)), ne_eqb j n (λ e. absurd (omega arith)), entry_in l n k k<, entry_in l n j j<)
      (go (expected a (entry_from l j).body.values))
    where
      go : (t : Bool) → cond t None (Some (entry_from l k).line) ≡ cond (not t) (Some (entry_from l k).line) None
      go true = refl
      go false = refl

  -- ---- all of them

  module _ {last mark : List ℕ} (s : Seen l n last mark) where
    off_at_lem : (p : ℕ) → p < 64 → off_at a es p ≡ cond (off_by a l n (get_or last p 0) (get_or mark p 0)) (Some (entry_from l (get_or last p 0)).line) None
    unfolding off_at
    off_at_lem p p< =
        rw (length_entries l n, s.each_last p p<, s.each_mark p p<)
        (by_places (last_on es p n) (last_mark es p n) (λ k e. (last_of_lem (is_on p) es n k e).before) (λ k e. (last_of_lem (is_mark p) es n k e).before))

    module _ {p : ℕ} (p< : p < 64) {told : Bool} (tells : told ≡ off_by a l n (get_or last p 0) (get_or mark p 0)) where
      one_on : levels_from a es p (64 - p) ≡ on_off (off_at a es p) (levels_from a es (p + 1) (64 - (p + 1)))
      unfolding levels_from
      one_on = let z : 64 - p ≡ suc (64 - (p + 1)) = omega arith in rw (z, add-one p)

      pub off_here : told ≡ true → {site : Site} → site ≡ whole_line (entry_from l (get_or last p 0)).line
          → refused_at Fault.OtherLevels site ≡ levels_from a es p (64 - p)
      off_here e f = rw (one_on, off_at_lem p p<, ← tells, e, f)

      pub not_here : told ≡ false → levels_from a es p (64 - p) ≡ levels_from a es (p + 1) (64 - (p + 1))
      not_here e = one_on ∙ rw (off_at_lem p p<, ← tells, e)

    pub all_past : {p : ℕ} → 64 ≤ p → Ok tt ≡ levels_from a es p (64 - p)
    unfolding levels_from
    all_past {p} h = let z : 64 - p ≡ 0 = omega arith in rw z

-- ---- "A fourth number says 0 for off .. or 1 for on"

module _ (a : Asked) (es : List Entry) where
  pub not_asked : (a.levels ≡ 1 → ⊥) → Ok tt ≡ levels_of a es
  unfolding levels_of
  not_asked h = rw (ne_eqb a.levels 1 h)

  pub asked_for : a.levels ≡ 1 → {r : Result Unit Refusal} → r ≡ levels_from a es 0 64 → r ≡ levels_of a es
  unfolding levels_of
  asked_for h e = rw (eq-eqb a.levels 1 h) e
