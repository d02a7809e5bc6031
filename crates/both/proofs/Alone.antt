-- One trace read by itself into a store, and then both.
use Rattle.std.specs.Prelude.{Result, Ok, Err}
use Prim.Native.Nat.{ℕ, ◌≤◌, ◌<◌}
use native.Mathlib.Omega.{arith}
use mathlib.Core.Path.{◌≡◌, refl, sym, ◌∙◌}
use mathlib.Core.Bool.{Bool, true, false}
use mathlib.Core.List.{List}
use lib.ListN.{length}
use borrow.Author.Tests.{le-leb, lt-leb}
use Rattle.paper.specs.Columns.{nowhere, refused_at}
use Rattle.paper.specs.Reading.{read_of}
use Rattle.paper.specs.Answer.{longest}
use Rattle.paper.specs.Merging.{most_alone, read_alone, stop_alone, share_one, on_readings, on_second_trace, on_first_trace, both_of}
use Rattle.paper.specs.declared.Choice.{Choice}
use Rattle.paper.specs.declared.Entry.{Entry}
use Rattle.paper.specs.declared.Fault.{Fault}
use Rattle.paper.specs.declared.Site.{Site}
use Rattle.paper.specs.declared.Tally.{Tally}
use Rattle.paper.specs.declared.Refusal.{Refusal}
use Rattle.paper.specs.declared.Which.{Which}
use Rattle.paper.specs.declared.Which.TheVariants.{Neither, First, Second}
use Rattle.forms.proofs.Tests.{never}
use Rattle.common.specs.Held.{Held}
use Rattle.store.specs.Layout.{capacity, entries_in}
use Rattle.trace.specs.Read.{ReadInto}
use Rattle.trace.specs.declared.Read.{Read}
use Rattle.trace.proofs.Into.{stop_is, listed_is, passed_is, same_capacity, entries_are}
use Rattle.both.specs.Alone.{tally_in, stop_in, AloneInto, BehindFirst}
use Rattle.paper.specs.declared.Unmerged.{Unmerged}

-- the store is made for as many records as a trace may list
pub made : {n : ℕ} → n ≡ 2048 → n ≡ most_alone
unfolding most_alone
made e = e

-- ---- one trace

module _ (choice : Choice) (s store : List ℕ) where
  -- "trace above 65,536 bytes"
  pub too_long : longest < length s → {site : Site} → site ≡ nowhere
      → AloneInto choice s store (record { stop = refused_at Fault.LongTrace site; listed = 0; passed = 0 }) store
  unfolding stop_alone
  too_long h e =
      record { same = refl; stops = rw (lt-leb (length s) longest h, e); counts = λ z. never (cc); holds = λ z. never (cc) }

  pub was_read : length s ≤ longest → capacity store ≡ most_alone → {r : Read} {after : List ℕ} → ReadInto choice s store r after
      → AloneInto choice s store r after
  unfolding stop_alone longest
  was_read h room {r} {after} into =
      let whole : read_of choice (capacity store) s ≡ read_alone choice s = rw room in
      record {
        same = same_capacity into;
        stops = stop_is into ∙ rw (whole, le-leb (length s) longest h);
        counts = λ z. rw (← listed_is into, ← passed_is into, whole);
        holds = λ z. entries_are into (omega (arith, h)) ∙ rw whole;
      }

-- ---- what stopped one of the two

pub went_on : (which : Which) (stop : Result Unit Refusal) → stop_in which stop ≡ Ok tt → stop ≡ Ok tt
unfolding stop_in
went_on which (Ok tt) e = refl
went_on which (Err refusal) e = cc

pub went_out : (which : Which) (stop : Result Unit Refusal) (out : Unmerged) → stop_in which stop ≡ Err out
    → (stop ≡ refused_at out.fault out.site) × (out ≡ record { fault = out.fault; which = which; site = out.site })
unfolding stop_in
went_out which (Ok tt) out e = (cc, cc)
went_out which (Err refusal) out e =
    let same : ◌≡◌ {A = Unmerged} (record { fault = refusal.fault; which = which; site = refusal.site }) out = cc in
    rw (← same) (refl, refl)

-- ---- both

module _ {choice : Choice} {second store after : List ℕ} {r : Read} (alone : AloneInto choice second store r after) (a : Tally) (held : List Bool) where
  pub second_refused : (fault : Fault) (site : Site) → r.stop ≡ refused_at fault site → BehindFirst choice second a held (Err (record { fault = fault; which = Second; site = site }))
  unfolding BehindFirst both_of on_first_trace on_second_trace
  second_refused fault site e first ends tallied holds = rw (ends, sym alone.stops ∙ e)

  module _ (ends₂ : r.stop ≡ Ok tt) {told : Bool} (tells : (es : List Entry) → Held es held → told ≡ share_one es (entries_in after r.listed)) where
    pub one_shared : told ≡ true → {site : Site} → site ≡ nowhere → BehindFirst choice second a held (Err (record { fault = Fault.SharedProcessor; which = Neither; site = site }))
    unfolding BehindFirst both_of on_first_trace on_second_trace on_readings
    one_shared e s first ends tallied holds =
        let shared = rw (alone.holds ends₂, e) at (tells _ holds) in
        rw (ends, sym alone.stops ∙ ends₂, ← shared, s)

    pub none_shared : told ≡ false → {b : Tally} → b ≡ tally_in r → BehindFirst choice second a held (Ok (a, b))
    unfolding BehindFirst both_of on_first_trace on_second_trace on_readings
    none_shared e t first ends tallied holds =
        let shared = rw (alone.holds ends₂, e) at (tells _ holds) in
        rw (ends, sym alone.stops ∙ ends₂, ← shared, tallied, t ∙ alone.counts ends₂)

module _ {choice : Choice} (first second : List ℕ) {store after : List ℕ} {r : Read} (alone : AloneInto choice first store r after) where
  pub first_refused : (fault : Fault) (site : Site) → r.stop ≡ refused_at fault site → Err (record { fault = fault; which = First; site = site }) ≡ both_of choice first second
  unfolding both_of on_first_trace
  first_refused fault site e = rw (sym alone.stops ∙ e)

  pub behind_first : r.stop ≡ Ok tt → {held : List Bool} → Held (entries_in after r.listed) held → {a : Tally} → a ≡ tally_in r
      → {both : Result (Tally × Tally) Unmerged} → BehindFirst choice second a held both → both ≡ both_of choice first second
  unfolding BehindFirst
  behind_first ends holds t behind =
      behind first (sym alone.stops ∙ ends) (t ∙ alone.counts ends) (rw (alone.holds ends) at holds)
