-- The ninth change request: "The caller gives a share from 0 to 1,000; a record must now lie after its predecessor by at least that many
-- thousandths of their original gap, rounded down. Share 0 is today's rule. A share above 1,000 is refusal 2. .. A trace consistent at share
-- 0 still is." The condition itself is `Keeping` in Demand3.antt.
use Rattle.std.specs.Prelude.{ℕ, ◌+◌, ◌*◌, ◌≤◌, ◌<◌, ◌≡◌, ◌↔◌, List, length, ℤ, pos, ◌+ℤ◌, ◌≤ℤ◌}
use Rattle.paper.specs.Gaps.{apart, gap_of}
use Rattle.paper.specs.Clock.{Waits}
use Rattle.paper.specs.Matching.{entry_at, last_on, send_of, latency_for, waits_of}
use Rattle.paper.specs.Answer.{Inputs, judge}
use Rattle.paper.specs.declared.Asked.{Asked}
use Rattle.paper.specs.declared.Choice.{Choice}
use Rattle.paper.specs.declared.Entry.{Entry}
use Rattle.matching.specs.Belongs.{processor}
use Rattle.demands.specs.Parts.{number, verdict, listed, time}
use Rattle.demands.specs.Steps.{Chosen, entries, original}
use Rattle.demands.specs.Demand3.{Allowed, Keeping}

-- the same call at another share
abbrev pub sharing : ℕ → Asked → Asked
sharing share a =
    record {
      choice = a.choice;
      levels = a.levels;
      picl = a.picl;
      user = a.user;
      trace = a.trace;
      statistics = a.statistics;
      share = share;
    }

abbrev pub with_share : ℕ → Inputs → Inputs
with_share share i =
    record { trace = i.trace; latencies = i.latencies; asked = sharing share i.asked; times = i.times; wanted = i.wanted; room = i.room }

-- "today's rule": what the records waited for before the request, which kept no gap
unfoldable pub today : List ℕ → List Entry → Waits
today latencies es =
    record {
      size = length es;
      original = λ i. (entry_at es i).body.time;
      before = λ i. last_on es (entry_at es i).body.processor i;
      gap = λ i. 0;
      send = send_of es;
      latency = λ i. latency_for latencies (entry_at es i).body.processor (entry_at es i).body.role;
    }

pub record Shares : Type 0 where
  -- "their original gap": the later time is the earlier one and the gap
  pub gap : (a b : ℤ) → a ≤ℤ b → a +ℤ pos (apart a b) ≡ b
  -- "that many thousandths .., rounded down"
  pub rounded_down : (share : ℕ) (a b : ℤ) → (1000 * gap_of share a b ≤ share * apart a b) × (share * apart a b < 1000 * (gap_of share a b + 1))
  -- "Share 0 is today's rule": the times that document 01 allows, and no less than the same waits, so that the least sound set, the rounds,
  -- refusal 15 and the chain are today's
  pub none_kept : (table : List ℕ) (es : List Entry) (x : ℕ → ℤ) → Keeping 0 table es x ↔ Allowed table es x
  pub as_today : (table : List ℕ) (es : List Entry) → waits_of 0 table es ≡ today table es
  -- "A share above 1,000 is refusal 2", where 1 is not called for
  pub above : (i : Inputs) (choice : Choice) → Chosen i choice → 1000 < i.asked.share → number i ≡ 2
  -- "A trace consistent at share 0 still is": in all that the call comes to
  pub consistent : (i : Inputs) (share : ℕ) → share ≤ 1000 → verdict (with_share 0 i) ≡ 1 → judge (with_share share i) ≡ judge (with_share 0 i)
  -- What follows is more than the request says. A call in which no time moved comes to the same at any other share too, a smaller one among
  -- them, and with no message matched
  pub unmoved : (i : Inputs) (share : ℕ) → share ≤ 1000 → number i ≡ 0 → ¬ (verdict i ≡ 2) → judge (with_share share i) ≡ judge i
  -- raising the share makes no time earlier,
  pub raised_later : (i : Inputs) (share more : ℕ) → share ≤ more → number (with_share share i) ≡ 0 → number (with_share more i) ≡ 0
      → (k : ℕ) → k < listed (with_share share i) → time (with_share share i) k ≤ℤ time (with_share more i) k
  -- nor does it turn 15 into an answer
  pub raised_impossible : (i : Inputs) (share more : ℕ) → share ≤ more → more ≤ 1000 → number (with_share share i) ≡ 15
      → number (with_share more i) ≡ 15
  -- and at share 1,000 no two records of a processor are closer than they were, neighbours or not
  pub whole : (i : Inputs) (choice : Choice) → Chosen i choice → number i ≡ 0 → i.asked.share ≡ 1000
      → (j k : ℕ) → j < k → k < listed i → processor (entries i choice) j ≡ processor (entries i choice) k
      → (time i j +ℤ pos (apart (original (entries i choice) j) (original (entries i choice) k))) ≤ℤ time i k
