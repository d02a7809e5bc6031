-- The records, one by one: those that are left come to what all come to.
use Rattle.std.specs.Prelude.{Result, Ok}
use Rattle.std.proofs.Common.{◌≡◌, ℕ, ◌+◌, ◌<◌, ◌≤◌, Bool, true, false, List, [], length, get_or, drop, replicate, ℤ, sym, refl, ◌∙◌, add-one, arith, drop-cons}
use lib.Seq.{drop-length}
use Rattle.paper.specs.Columns.{whole_line, refused_at}
use Rattle.paper.specs.Matching.{no_entry, entry_at}
use Rattle.paper.specs.Reading.{lines_of}
use Rattle.paper.specs.Statistics.{on_differs, compared_from}
use Rattle.paper.specs.declared.Fault.TheVariants as Fault
use Rattle.paper.specs.declared.Site.{Site}
use Rattle.reading.specs.Tidy.{InRange}
use Rattle.store.specs.Layout.{entry_from, entries_in}
use Rattle.store.proofs.Laws.{length_entries, entry_in}
use Rattle.statistics.specs.Tallied.{Tallied}
use Rattle.statistics.proofs.Tallied.{none_added}
use Rattle.statistics.specs.Ready.{Sized, AllHeld, Stands, Holding, Before, earlier, differs_at}
use Rattle.paper.specs.declared.Refusal.{Refusal}

-- ---- the loop

abbrev all : List ℕ → List ℕ → ℕ → Result Unit Refusal
all trace l n = compared_from (lines_of trace) (entries_in l n) 0 (entries_in l n)

abbrev left : List ℕ → List ℕ → ℕ → ℕ → Result Unit Refusal
left trace l n i = compared_from (lines_of trace) (entries_in l n) i (drop i (entries_in l n))

pub record Comparing (trace l : List ℕ) (n : ℕ) (link counts : List ℕ) (times lengths : List ℤ) (heads : List ℕ) (i : ℕ) : Type 0 where
  pub long : length link ≡ n
  pub before : Before l link counts times lengths heads i
  pub same : Holding trace l n → all trace l n ≡ left trace l n i

pub begins : {trace l link counts : List ℕ} {times lengths : List ℤ} {heads : List ℕ}
    → Sized (length link) (length counts) (length times) (length lengths) → AllHeld l (length link) → heads ≡ replicate 1024 0
    → Comparing trace l (length link) link counts times lengths heads 0
begins z held e =
    record {
      long = refl;
      before = record { tallied = none_added e z.few refl z.all_counts z.all_times z.all_lengths; held = held };
      same = λ holding. refl;
    }

module _ (trace l : List ℕ) (n i : ℕ) where
  here : i < n → left trace l n i ≡ on_differs (differs_at trace l n i) (entry_from l i).line (left trace l n (i + 1))
  unfolding compared_from earlier
  here h =
      let es = entries_in l n in
      let first : get_or es i no_entry ≡ entry_from l i = unfold entry_at in entry_in l n i h in
      rw (drop-cons es i no_entry (rw (length_entries l n) h), first, add-one)

  none_left : i ≡ n → left trace l n i ≡ Ok tt
  unfolding compared_from
  none_left e =
      let es = entries_in l n in
      let all_gone : drop i es ≡ [] = rw (e ∙ sym (length_entries l n)) (drop-length es) in
      rw all_gone

module _ {trace l : List ℕ} {n : ℕ} {link counts : List ℕ} {times lengths : List ℤ} {heads : List ℕ} {i : ℕ} (g : Comparing trace l n link counts times lengths heads i) where
  pub in_range : i < n → InRange (entry_from l i).body.time
  in_range h = (g.before.held i (rw g.long h)).time

  module _ (h : i < n) {told : Bool} (tells : Stands trace l i → told ≡ differs_at trace l (length link) i) where
    -- what is told of record i, and those behind it
    from_here : Holding trace l n → all trace l n ≡ on_differs told (entry_from l i).line (left trace l n (i + 1))
    from_here holding =
        rw (g.same holding, here trace l n i h, ← g.long, ← tells (holding.stands i h))

    pub stops : told ≡ true → {site : Site} → site ≡ whole_line (entry_from l i).line → Holding trace l n → refused_at Fault.OtherStatistics site ≡ all trace l n
    stops t e holding = rw (e, from_here holding, t)

    pub goes_on_lem : told ≡ false → {link₁ counts₁ : List ℕ} {times₁ lengths₁ : List ℤ} {heads₁ : List ℕ} → length link₁ ≡ length link
        → Tallied l (length link) link₁ counts₁ times₁ lengths₁ heads₁ (i + 1) → Comparing trace l n link₁ counts₁ times₁ lengths₁ heads₁ (i + 1)
    goes_on_lem t e next =
        record {
          long = e ∙ g.long;
          before = record { tallied = rw e next; held = rw e g.before.held };
          same = λ holding. rw (from_here holding, t);
        }

  pub ends : n ≤ i → Holding trace l n → Ok tt ≡ all trace l n
  ends h holding = sym (g.same holding ∙ none_left trace l n i (omega (arith, g.long, g.before.tallied.some)))
