-- The call, and what the functions below it have in hand.
use Rattle.std.specs.Prelude.{ℕ, ◌≤◌, ◌<◌, ◌≡◌, List, length, ℤ, Result, Ok, Err}
use Rattle.paper.specs.Answer.{reach}
use Rattle.paper.specs.Chain as paper
use Rattle.paper.specs.Clock.{time_at}
use Rattle.paper.specs.Filling.{query, filling, on_list, judged}
use Rattle.paper.specs.Matching.{waits_of}
use Rattle.paper.specs.declared.Asked.{Asked}
use Rattle.paper.specs.declared.Entry.{Entry}
use Rattle.paper.specs.declared.Filled.{Filled}
use Rattle.store.specs.Layout.{too_many}
use Rattle.chains.specs.Places.{places_of}
use Rattle.waits.specs.Tables.{originals_of, befores_of, gaps_of, latencies_of}
use Rattle.steps.specs.Tables.{exact_table, end_ranks}
use Rattle.reach.specs.Reach.{reaches}
use Rattle.reach.specs.declared.Unreached.{Unreached}
use Rattle.answer.specs.declared.Counts.{Counts}

-- ---- the steps

-- slices of n places each
pub record Slices (n : ℕ) (originals : List ℤ) (before sends latency ranks : List ℕ) : Type 0 where
  pub few : n < too_many
  pub all_originals : length originals ≡ n
  pub all_before : length before ≡ n
  pub all_sends : length sends ≡ n
  pub all_latency : length latency ≡ n
  pub all_ranks : length ranks ≡ n

-- the tables of the steps of some records, from their times and the places of their sends
pub record Stepped (share : ℕ) (table : List ℕ) (es : List Entry) (times : List ℤ) (sends ranks before' sends' ranks' : List ℕ) : Type 0 where
  pub by_processor : share ≤ 1000 → before' ≡ exact_table times (gaps_of share es) (length times) (befores_of es)
  pub by_send : sends' ≡ exact_table times (latencies_of table es) (length times) sends
  pub at_original : ranks' ≡ end_ranks (originals_of es) times (length times) ranks

-- ---- the ending

-- the same slices, and those in which the fewest steps are counted
pub record Rooms (n : ℕ) (spare : List ℤ) (before sends latency ranks after receive : List ℕ) : Type 0 where
  pub slices : Slices n spare before sends latency ranks
  pub all_after : length after ≡ n
  pub all_receive : length receive ≡ n

-- a time and a send's place for each record, not more than a call may list, and one of them is asked for
pub record Found (times : List ℤ) (sends : List ℕ) (place : ℕ) : Type 0 where
  pub few : length times ≤ 2048
  pub all_sends : length sends ≡ length times
  pub inside : place < length times

-- whatever the times: if at most the whole gaps are kept, and the places are those of the sends, it is the chain
pub record ExplainedBy (share : ℕ) (table : List ℕ) (es : List Entry) (times : List ℤ) (sends : List ℕ) (place : ℕ) (list : List ℕ) (r : Filled)
    (list' : List ℕ) : Type 0 where
  pub gives : share ≤ 1000 → sends ≡ places_of es
      → filling r list' ≡ on_list (paper.chain_of (waits_of share table es) (time_at times) place) list

-- a time and a send's place for each listed record
pub record Places (listed : ℕ) (times : List ℤ) (sends : List ℕ) : Type 0 where
  pub few : listed ≤ 2048
  pub with_times : listed ≤ length times
  pub with_sends : listed ≤ length sends

unfoldable pub WithPlaces : Result Counts Unreached → List ℤ → List ℕ → Type 0
WithPlaces (Ok counts) times sends = Places counts.listed times sends
WithPlaces (Err (Unreached.Refused refusal)) times sends = Unit
WithPlaces (Err Unreached.Misfit) times sends = Unit

-- whatever the trace and what the caller named beside the share: where the call came so far with them, it comes to this
pub record ConcludedBy (reached : Result Counts Unreached) (latencies : List ℕ) (share place : ℕ) (store : List ℕ) (times : List ℤ) (sends list : List ℕ) (r : Filled)
    (list' : List ℕ) : Type 0 where
  pub gives : (trace : List ℕ) (asked : Asked) → asked.share ≡ share → reaches trace (reach (judged (query trace latencies asked))) reached store sends times
      → filling r list' ≡ paper.chain (query trace latencies asked) place list
