-- The statement of `reach` leaves one answer, and where the times are found one thing that the first places of the slices hold.
use Rattle.std.specs.Prelude.{Result, Ok, Err}
use Prim.Native.Nat.{ℕ}
use mathlib.Core.Path.{◌≡◌, refl, sym, ap, ◌∙◌}
use mathlib.Core.List.{List}
use mathlib.Core.Bool.{Bool, true, false}
use lib.ListN.{length, take}
use lib.IntN.{ℤ}
use Rattle.paper.specs.Answer as paper
use Rattle.paper.specs.Answer.{Given, Found, stopped, found}
use Rattle.paper.specs.Matching.{matched_count, unreceived_count}
use Rattle.store.specs.Layout.{entries_in}
use Rattle.answer.specs.declared.Counts.{Counts}
use Rattle.reach.specs.Reach.{Held, reaches, ReachedBy}
use Rattle.paper.specs.declared.Fault.{Fault}
use Rattle.paper.specs.declared.Site.{Site}
use Rattle.paper.specs.declared.Refusal.{Refusal}
use Rattle.reach.specs.declared.Unreached.{Unreached}

-- the counts of what was found
abbrev counts_of : Found → Counts
counts_of f =
    record {
      listed = length f.reading.entries;
      passed = f.reading.state.passed;
      matched = matched_count f.reading.entries;
      unreceived = unreceived_count f.reading.entries;
      rounds = f.rounds;
    }

counted : {trace : List ℕ} (f : Found) {counts : Counts} {store sends : List ℕ} {times : List ℤ} → Held trace f counts store sends times → counts_of f ≡ counts
counted f h = rw (h.listed, h.passed, h.matched, h.unreceived, h.rounds)

abbrev refused : Fault → Site → Refusal
refused fault site = record { fault = fault; site = site }

module _ (trace : List ℕ) (x : paper.Reached) (store store' sends sends' : List ℕ) (times times' : List ℤ) where
  pub one_answer : (r q : Result Counts Unreached) → reaches trace x r store sends times → reaches trace x q store' sends' times' → r ≡ q
  unfolding reaches
  one_answer (Ok a) (Ok b) (f, e, h) (g, d, k) =
      let same : f ≡ g = let z : found f ≡ found g = sym e ∙ d in cc in
      ap Ok (sym (counted f h) ∙ ap counts_of same ∙ counted g k)
  one_answer (Ok a) (Err (Unreached.Refused refusal)) (f, e, h) d = let z : found f ≡ stopped refusal.fault refusal.site = sym e ∙ d in cc
  one_answer (Err (Unreached.Refused refusal)) (Ok b) e (g, d, k) = let z : stopped refusal.fault refusal.site ≡ found g = sym e ∙ d in cc
  one_answer (Err (Unreached.Refused a)) (Err (Unreached.Refused b)) e d =
      let z : stopped a.fault a.site ≡ stopped b.fault b.site = sym e ∙ d in
      let faults : a.fault ≡ b.fault = cc in
      let sites : a.site ≡ b.site = cc in
      ap (λ (r : Refusal). Err (Unreached.Refused r)) (ap (λ f. refused f a.site) faults ∙ ap (refused b.fault) sites)
  one_answer (Err Unreached.Misfit) q e d = absurd e
  one_answer (Ok a) (Err Unreached.Misfit) e d = absurd d
  one_answer (Err (Unreached.Refused refusal)) (Err Unreached.Misfit) e d = absurd d

  -- the records, the places of their sends, and their times
  pub one_held : (counts : Counts) → reaches trace x (Ok counts) store sends times → reaches trace x (Ok counts) store' sends' times'
      → (entries_in store counts.listed ≡ entries_in store' counts.listed)
      × (take counts.listed sends ≡ take counts.listed sends') × (take counts.listed times ≡ take counts.listed times')
  unfolding reaches
  one_held counts (f, e, h) (g, d, k) =
      let same : g ≡ f = let z : found g ≡ found f = sym d ∙ e in cc in
      let k : Held trace f counts store' sends' times' = rw same at k in
      (h.entries ∙ sym k.entries, h.places ∙ sym k.places, h.new ∙ sym k.new)

pub one_reach : (fits : Bool) (g : Given) (r q : Result Counts Unreached) {store store' sends sends' : List ℕ} {times times' : List ℤ}
    → ReachedBy fits g r store sends times → ReachedBy fits g q store' sends' times' → r ≡ q
one_reach true g r q a b = one_answer g.trace (paper.reach g) _ _ _ _ _ _ r q (a.answers refl) (b.answers refl)
one_reach false g r q a b = a.misfits refl ∙ sym (b.misfits refl)
