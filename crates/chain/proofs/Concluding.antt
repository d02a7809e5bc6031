-- What the ending of a call comes to, of a call that came so far.
use Rattle.std.specs.Prelude.{Result, Ok, Err}
use Prim.Native.Nat.{ℕ, ◌-◌, ◌≤◌, ◌<◌}
use native.Mathlib.Nat.{sub-zero}
use native.Mathlib.Omega.{arith}
use mathlib.Core.Path.{◌≡◌, refl, sym, ap, ◌∙◌}
use mathlib.Core.List.{List}
use borrow.Author.Tests.{lt-ltb, le-ltb}
use borrow.Table.Elements.{take-le}
use lib.ListN.{length, take}
use lib.Seq.{length-take-le}
use lib.IntN.{ℤ}
use Rattle.paper.specs.Answer.{reach}
use Rattle.paper.specs.Chain.{on_place, chain}
use Rattle.paper.specs.Columns.{nowhere}
use Rattle.paper.specs.Filling.{Query, query, untouched, judged, on_reached, fill}
use Rattle.paper.specs.Matching.{waits_of}
use Rattle.paper.specs.declared.Fault.{Fault}
use Rattle.paper.specs.declared.Filled.{Filled}
use Rattle.paper.specs.declared.Refusal.{Refusal}
use Rattle.paper.specs.declared.Site.{Site}
use Rattle.store.specs.Layout.{entries_in}
use Rattle.chains.proofs.Places.{length_places}
use Rattle.reach.specs.Reach.{reaches}
use Rattle.reach.proofs.Means.{found_means}
use Rattle.answer.specs.declared.Counts.{Counts}
use Rattle.answer.specs.Answers.{unfilling}
use Rattle.chain.specs.Call.{Rooms, Found, ExplainedBy, Places, WithPlaces, ConcludedBy}
use Rattle.reach.specs.declared.Unreached.{Unreached}

-- ---- the first places of the slices, one for each listed record

pub within : {reached : Result Counts Unreached} {times : List ℤ} {sends : List ℕ} → WithPlaces reached times sends → {counts : Counts} → reached ≡ Ok counts
    → Places counts.listed times sends
unfolding WithPlaces
within enough e = rw e at enough

cut : {A : Type 0} (listed : ℕ) (l : List A) → listed ≤ length l → length (take (listed - 0) l) ≡ listed
cut listed l h = rw (sub-zero listed) (length-take-le listed l h)

pub found_cut : {listed : ℕ} (times : List ℤ) (sends : List ℕ) → Places listed times sends → {place : ℕ} → place < listed
    → Found (take (listed - 0) times) (take (listed - 0) sends) place
found_cut {listed} times sends p l =
    let long = cut listed times p.with_times in
    record { few = omega (arith, long, p.few); all_sends = cut listed sends p.with_sends ∙ sym long; inside = omega (arith, long, l) }

-- the arrays of the work, as far as they are lent
pub rooms_cut : (times : List ℤ) {sends : List ℕ} {place : ℕ} → Found times sends place → (spare : List ℤ) (before latency ranks after receive : List ℕ)
    → length spare ≡ 2048 → length before ≡ 2048 → length latency ≡ 2048 → length ranks ≡ 2048 → length after ≡ 2048 → length receive ≡ 2048
    → Rooms (length times) (take (length times - 0) spare) (take (length times - 0) before) sends (take (length times - 0) latency)
    (take (length times - 0) ranks) (take (length times - 0) after) (take (length times - 0) receive)
rooms_cut times f spare before latency ranks after receive a b c d e g =
    record {
      slices = record {
        few = omega (arith, f.few);
        all_originals = cut (length times) spare (omega (arith, f.few, a));
        all_before = cut (length times) before (omega (arith, f.few, b));
        all_sends = f.all_sends;
        all_latency = cut (length times) latency (omega (arith, f.few, c));
        all_ranks = cut (length times) ranks (omega (arith, f.few, d));
      };
      all_after = cut (length times) after (omega (arith, f.few, e));
      all_receive = cut (length times) receive (omega (arith, f.few, g));
    }

-- ---- however far the call came

module _ (latencies : List ℕ) (share place : ℕ) (store : List ℕ) (times : List ℤ) (sends list : List ℕ) {reached : Result Counts Unreached} where
  pub concluded_refused : {refused : Refusal} {why : Unreached} → reached ≡ Err why → why ≡ Unreached.Refused refused → {r : Filled} → r ≡ unfilling refused.fault refused.site
      → ConcludedBy reached latencies share place store times sends list r list
  unfolding reaches unfilling chain fill on_reached untouched
  concluded_refused e told a = record { gives = λ trace asked same says. let stops = rw (e, told) at says in rw (a, stops) }

  pub concluded_never : {why : Unreached} → reached ≡ Err why → why ≡ Unreached.Misfit → {r : Filled} {list' : List ℕ} → ConcludedBy reached latencies share place store times sends list r list'
  unfolding reaches
  concluded_never e told = record { gives = λ trace asked same says. absurd (rw (e, told) at says) }

  module _ {counts : Counts} (e : reached ≡ Ok counts) where
    -- "a place not below the listed count is 22"
    pub concluded_outside : counts.listed ≤ place → {site : Site} → site ≡ nowhere → {r : Filled} → r ≡ unfilling Fault.NoPlace site
        → ConcludedBy reached latencies share place store times sends list r list
    unfolding reaches unfilling chain fill on_reached on_place untouched waits_of
    concluded_outside l s a =
        record {
          gives = λ trace asked same says.
              let (f, is, held) = rw e at says in
              rw (a, s, is, le-ltb place (length f.reading.entries) (omega (arith, l, held.listed)));
        }

    pub concluded_inside : place < counts.listed → {r : Filled} {list' : List ℕ}
        → ExplainedBy share latencies (entries_in store (length (take (counts.listed - 0) times))) (take (counts.listed - 0) times)
        (take (counts.listed - 0) sends) place list r list'
        → counts.listed ≤ length times
        → ConcludedBy reached latencies share place store times sends list r list'
    unfolding reaches chain fill on_reached on_place waits_of judged
    concluded_inside l explained h =
        record {
          gives = λ trace asked same says.
              let (f, is, held) = rw e at says in
              let es = f.reading.entries in
              let told = rw (cut counts.listed times h, sub-zero counts.listed, held.entries, held.new, held.places, ← same) at explained in
              let inside : place < length es = omega (arith, l, held.listed) in
              let few = (found_means (judged (query trace latencies asked)) f is).share in
              rw (is, lt-ltb place (length es) inside) (told.gives few refl);
        }

-- a time and a send's place for each listed record, of a call that came to its times
pub with_places : (q : Query) (reached : Result Counts Unreached) (store sends : List ℕ) (times : List ℤ) → reaches q.trace (reach (judged q)) reached store sends times
    → length sends ≡ 2048 → length times ≡ 2048 → WithPlaces reached times sends
unfolding WithPlaces reaches
with_places q (Ok counts) store sends times (f, is, held) size size' =
    let long : length (take counts.listed sends) ≡ counts.listed =
    ap (λ (l : List ℕ). length l) held.places ∙ length_places f.reading.entries ∙ held.listed in
    let enough = take-le counts.listed sends in
    record { few = omega (arith, long, enough, size); with_times = omega (arith, long, enough, size, size'); with_sends = omega (arith, long, enough) }
with_places q (Err (Unreached.Refused refusal)) store sends times says size size' = tt
with_places q (Err Unreached.Misfit) store sends times says size size' = tt
