-- The engine, given the tables of a trace's records, answers what the paper says of the records.
use Rattle.std.specs.Prelude.{Option, Some, None, unwrap_or}
use Prim.Native.Nat.{ℕ, ◌<◌}
use native.Mathlib.Omega.{arith}
use mathlib.Core.Path.{◌≡◌, refl}
use mathlib.Core.List.{List}
use borrow.Author.Tests.{lt-ltb, le-ltb}
use lib.ListN.{length, get_or}
use lib.IntN.{ℤ, pos}
use Rattle.paper.specs.Clock.{listed, settle}
use Rattle.paper.specs.Matching as paper
use Rattle.paper.specs.Matching.{last_on, send_of}
use Rattle.paper.specs.declared.Entry.{Entry}
use Rattle.store.proofs.Listed.{length_listed, listed_at}
use Rattle.matching.proofs.Belong.{processor_at}
use Rattle.engine.specs.Promise.{place, waits_of}
use Rattle.waits.specs.Tables.{original_at, gap_at, latency_at, originals_of, befores_of, latencies_of}
use Rattle.rounds.specs.Compare.{First}
use Rattle.rounds.proofs.Agree.{settle_agrees}
use Rattle.waits.proofs.Closed.{before_within, send_within}

-- what the engine is given for a trace's records: four tables of this crate, where that of the gaps may be short, and of each entry the place of its send
pub record Given (share : ℕ) (table : List ℕ) (es : List Entry) (originals : List ℤ) (before gap send latency : List ℕ) : Type 0 where
  pub are_originals : originals ≡ originals_of es
  pub are_befores : before ≡ befores_of es
  pub are_gaps : (i : ℕ) → i < length es → get_or gap i 0 ≡ gap_at share es i
  pub are_sends : send ≡ listed (length es) (λ i. unwrap_or (send_of es i) (length es))
  pub are_latencies : latency ≡ latencies_of table es

-- places that were written down are read again
module _ (n : ℕ) where
  pub place_back : (o : Option ℕ) → ((j : ℕ) → o ≡ Some j → j < n) → place n (unwrap_or o n) ≡ o
  place_back None within = rw (le-ltb n n (omega arith))
  place_back (Some j) within = rw (lt-ltb j n (within j refl))

  pub places_back : (f : ℕ → Option ℕ) (i : ℕ) → i < n → ((j : ℕ) → f i ≡ Some j → j < n)
      → place n (get_or (listed n (λ k. unwrap_or (f k) n)) i 0) ≡ f i
  places_back f i i< within = rw (listed_at n (λ k. unwrap_or (f k) n) i 0 i<) (place_back (f i) within)

module _ (share : ℕ) (table : List ℕ) (es : List Entry) where
  size : length (originals_of es) ≡ length es
  unfolding originals_of
  size = length_listed (length es) (original_at es)

  last_at : ℕ → Option ℕ
  last_at i = last_on es (processor_at es i) i

  -- the tables stand for the waits that the paper tells of
  pub tables_agree : {originals : List ℤ} {before gap send latency : List ℕ} → Given share table es originals before gap send latency
      → First (waits_of originals before gap send latency) (paper.waits_of share table es)
  unfolding waits_of originals_of befores_of latencies_of paper.waits_of last_at
  tables_agree g =
      let n = length es in
      let inside : (i : ℕ) → i < length (originals_of es) → i < n = λ i l. rw size at l in
      rw (g.are_originals, g.are_befores, g.are_sends, g.are_latencies)
      (record {
        size = omega (arith, size);
        original = λ i l. listed_at n (original_at es) i (pos 0) (inside i l);
        before = λ i l. rw size (places_back n last_at i (inside i l) (λ j. before_within es (processor_at es i) i j (inside i l)));
        gap = λ i l. g.are_gaps i (inside i l);
        send = λ i l. rw size (places_back n (send_of es) i (inside i l) (send_within es i));
        latency = λ i l. listed_at n (latency_at table es) i 0 (inside i l);
      })

  -- and so the engine's answer is the paper's
  pub same_settled : {originals : List ℤ} {before gap send latency : List ℕ} → Given share table es originals before gap send latency
      → settle (waits_of originals before gap send latency) ≡ settle (paper.waits_of share table es)
  unfolding waits_of paper.waits_of
  same_settled g = settle_agrees (tables_agree g) (rw g.are_originals size)
