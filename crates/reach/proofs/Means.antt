-- What a caller learns of a call that found its times.
use Rattle.std.specs.Prelude.{Option, Result, Some, None, Ok, Err}
use Prim.Native.Nat.{ℕ, ◌≤◌}
use mathlib.Core.Path.{◌≡◌, refl}
use mathlib.Core.Bool.{Bool, true, false, cond}
use native.Mathlib.Omega.{arith}
use lib.ListN.{length}
use lib.Dec.{leb}
use Rattle.paper.specs.Columns.{nowhere}
use Rattle.paper.specs.Answer.{Given, Found, stopped, found, most, longest, heard, right_sizes, low_latencies, on_settled, on_matched, on_statistics, on_levels, on_read, on_choice, reach}
use Rattle.paper.specs.Clock.{Settled, impossible, settled, settle}
use Rattle.paper.specs.Levels.{levels_of}
use Rattle.paper.specs.Statistics.{statistics_of}
use Rattle.paper.specs.Matching.{matched_of, waits_of}
use Rattle.paper.specs.Reading.{Reading, read_of}
use Rattle.clearance.proofs.Clearing.{places_right, share_low}
use Rattle.paper.specs.declared.Choice.{Choice}
use Rattle.paper.specs.declared.Fault.{Fault}
use Rattle.paper.specs.declared.Site.{Site}
use Rattle.paper.specs.declared.Refusal.{Refusal}

-- the checks that it passed, and what was found
pub record Means (g : Given) (f : Found) : Type 0 where
  pub places : g.places ≡ most g
  pub share : g.asked.share ≤ 1000
  pub reading : f.reading ≡ read_of f.choice (most g) g.trace
  pub whole : f.reading.stop ≡ Ok tt
  pub levels : levels_of g.asked f.reading.entries ≡ Ok tt
  pub statistics : statistics_of g.asked g.trace f.reading.entries ≡ Ok tt
  pub matches : matched_of f.reading.entries ≡ Ok tt
  pub settles : settle (waits_of g.asked.share g.latencies f.reading.entries) ≡ settled f.rounds f.times

-- a stop is no find
never : {A : Type 0} {fault : Fault} {site : Site} {f : Found} → stopped fault site ≡ found f → A
never e = absurd (let z : ◌≡◌ {A = ℕ} 0 1 = cc in omega arith)

module _ (g : Given) (f : Found) where
  abbrev r : Choice → Reading
  r choice = read_of choice (most g) g.trace

  on_settled_lem : (choice : Choice) (r : Reading) (x : Settled) → on_settled choice r x ≡ found f
      → (f ≡ record { choice = choice; reading = r; rounds = f.rounds; times = f.times }) × (x ≡ settled f.rounds f.times)
  unfolding on_settled
  on_settled_lem choice r impossible e = never e
  on_settled_lem choice r (settled rounds times) e =
      let q : f ≡ record { choice = choice; reading = r; rounds = rounds; times = times } = cc in
      (rw q, rw q)

  module _ (sizes : right_sizes g ≡ true) (choice : Choice) where
    on_matched_lem : (r choice).stop ≡ Ok tt → levels_of g.asked (r choice).entries ≡ Ok tt → statistics_of g.asked g.trace (r choice).entries ≡ Ok tt
        → (x : Result Unit Refusal) → matched_of (r choice).entries ≡ x → on_matched g choice (r choice) x ≡ found f → Means g f
    unfolding on_matched
    on_matched_lem whole levels statistics (Err refusal) p e = never e
    on_matched_lem whole levels statistics (Ok tt) p e =
        let (is, settles) = on_settled_lem choice (r choice) (settle (waits_of g.asked.share g.latencies (r choice).entries)) e in
        rw is
        (record {
          places = places_right g sizes;
          share = share_low g sizes;
          reading = refl;
          whole = whole;
          levels = levels;
          statistics = statistics;
          matches = p;
          settles = settles;
        })

    on_statistics_lem : (r choice).stop ≡ Ok tt → levels_of g.asked (r choice).entries ≡ Ok tt
        → (x : Result Unit Refusal) → statistics_of g.asked g.trace (r choice).entries ≡ x → on_statistics g choice (r choice) x ≡ found f → Means g f
    unfolding on_statistics
    on_statistics_lem whole levels (Err refusal) p e = never e
    on_statistics_lem whole levels (Ok tt) p e = on_matched_lem whole levels p (matched_of (r choice).entries) refl e

    on_levels_lem : (r choice).stop ≡ Ok tt → (x : Result Unit Refusal) → levels_of g.asked (r choice).entries ≡ x → on_levels g choice (r choice) x ≡ found f → Means g f
    unfolding on_levels
    on_levels_lem whole (Err refusal) p e = never e
    on_levels_lem whole (Ok tt) p e = on_statistics_lem whole p (statistics_of g.asked g.trace (r choice).entries) refl e

    on_read_lem : (x : Result Unit Refusal) → (r choice).stop ≡ x → on_read g choice (r choice) x ≡ found f → Means g f
    unfolding on_read
    on_read_lem (Err refusal) p e = never e
    on_read_lem (Ok tt) p e = on_levels_lem p (levels_of g.asked (r choice).entries) refl e

  on_choice_lem : (h : Option Choice) → on_choice g h ≡ found f → Means g f
  unfolding on_choice
  on_choice_lem None e = never e
  on_choice_lem (Some choice) e = go (right_sizes g) (low_latencies g.latencies) (leb (length g.trace) longest) refl e
    where
      go : (a b c : Bool) → right_sizes g ≡ a
          → cond a
          (cond b (cond c (on_read g choice (r choice) (r choice).stop) (stopped Fault.LongTrace nowhere)) (stopped Fault.HighLatency nowhere))
          (stopped Fault.WrongLength nowhere)
          ≡ found f → Means g f
      go false b c p e = never e
      go true false c p e = never e
      go true true false p e = never e
      go true true true p e = on_read_lem p choice (r choice).stop refl e

  pub found_means : reach g ≡ found f → Means g f
  unfolding reach
  found_means e = on_choice_lem (heard g.asked) e
