-- Demand 3: "For a trace that no earlier check refuses and whose messages match, and a valid table, the times are the earliest that
-- the format can hold such that none precedes its original, each processor's order stays, and each receive is at least its latency
-- after its send; refused as impossible exactly if no such times exist. Where the first lines of a trace are accepted and the whole
-- is too, under one table and one choice, the later lines change no time of the earlier ones. Raising latencies from one valid table
-- to another never makes a time earlier and never turns "impossible" into an answer."
--
-- The ninth change request: "a record must now lie after its predecessor by at least that many thousandths of their original gap, rounded
-- down. .. The least sound set, the rounds, refusal 15, the chain of request 7 and all of demand 3 read this new condition, at one share
-- held fixed."
use Rattle.std.specs.Prelude.{ℕ, ◌+◌, ◌*◌, ◌≤◌, ◌<◌, ◌≡◌, ◌⊎◌, ◌↔◌, List, ◌++◌, length, get_or, ℤ, pos, ◌+ℤ◌, ◌≤ℤ◌, Some}
use Rattle.paper.specs.Gaps.{gap_of}
use Rattle.paper.specs.Clock.{limit}
use Rattle.paper.specs.Matching.{send_of}
use Rattle.paper.specs.Answer.{Inputs}
use Rattle.paper.specs.declared.Choice.{Choice}
use Rattle.paper.specs.declared.Entry.{Entry}
use Rattle.matching.specs.Belongs.{processor}
use Rattle.demands.specs.Parts.{number, listed, time}
use Rattle.demands.specs.Steps.{Chosen, entries, original, Matched}

-- ---- such times, as document 01 has them

pub record Allowed (table : List ℕ) (es : List Entry) (x : ℕ → ℤ) : Type 0 where
  -- "that the format can hold"
  pub format : (k : ℕ) → k < length es → x k ≤ℤ limit
  -- "none precedes its original"
  pub above : (k : ℕ) → k < length es → original es k ≤ℤ x k
  -- "each processor's order stays"
  pub order : (j k : ℕ) → j < k → k < length es → processor es j ≡ processor es k → x j ≤ℤ x k
  -- "each receive is at least its latency after its send"
  pub clock : (j k : ℕ) → k < length es → send_of es k ≡ Some j
      → (x j +ℤ pos (get_or table (64 * processor es j + processor es k) 0)) ≤ℤ x k

-- ---- and with the ninth change request's condition

-- record j is record k's "predecessor" on its processor
pub record DirectlyBefore (es : List Entry) (j k : ℕ) : Type 0 where
  pub before : j < k
  pub on : processor es j ≡ processor es k
  pub none_between : (m : ℕ) → j < m → m < k → ¬ (processor es m ≡ processor es k)

pub record Keeping (share : ℕ) (table : List ℕ) (es : List Entry) (x : ℕ → ℤ) : Type 0 where
  pub allowed : Allowed table es x
  -- "a record must now lie after its predecessor by at least that many thousandths of their original gap, rounded down"
  pub gaps : (j k : ℕ) → k < length es → DirectlyBefore es j k → (x j +ℤ pos (gap_of share (original es j) (original es k))) ≤ℤ x k

pub record Earliest (share : ℕ) (table : List ℕ) (es : List Entry) (x : ℕ → ℤ) : Type 0 where
  pub keeping : Keeping share table es x
  pub earliest : (y : ℕ → ℤ) → Keeping share table es y → (k : ℕ) → k < length es → x k ≤ℤ y k

-- ---- other calls; what they are lent, and whether the trace is to be written, may differ

-- "the first lines of a trace .. and the whole .., under one table and one choice", the same numbers for the levels and the statistics, and
-- "at one share held fixed": j has more bytes behind i's trace
pub record Longer (i j : Inputs) : Type 0 where
  pub more : List ℕ
  pub trace : j.trace ≡ i.trace ++ more
  pub latencies : j.latencies ≡ i.latencies
  pub asked : j.asked ≡ i.asked

-- "a valid table"
pub record Valid (table : List ℕ) : Type 0 where
  pub size : length table ≡ 4096
  pub low : (k : ℕ) → k < length table → get_or table k 0 ≤ 1000000

-- "Raising latencies from one valid table to another", "at one share held fixed"
pub record Raised (i j : Inputs) : Type 0 where
  pub trace : j.trace ≡ i.trace
  pub asked : j.asked ≡ i.asked
  pub from : Valid i.latencies
  pub to : Valid j.latencies
  pub higher : (k : ℕ) → k < 4096 → get_or i.latencies k 0 ≤ get_or j.latencies k 0

pub record Demand3 : Type 0 where
  -- "For a trace that no earlier check refuses and whose messages match, and a valid table, the times are the earliest that the
  -- format can hold such that ..": such a trace gets times, or 15, or 16
  pub given : (i : Inputs) (choice : Choice) → Matched i choice → (number i ≡ 0) ⊎ ((number i ≡ 15) ⊎ (number i ≡ 16))
  pub earliest : (i : Inputs) (choice : Choice) → Chosen i choice → number i ≡ 0
      → Earliest i.asked.share i.latencies (entries i choice) (time i)
  -- "refused as impossible exactly if no such times exist"
  pub impossible : (i : Inputs) (choice : Choice) → Matched i choice
      → (number i ≡ 15) ↔ ((x : ℕ → ℤ) → Keeping i.asked.share i.latencies (entries i choice) x → ⊥)
  -- "Where the first lines of a trace are accepted and the whole is too .., the later lines change no time of the earlier ones"
  pub first_lines : (i j : Inputs) → Longer i j → number i ≡ 0 → number j ≡ 0 → (k : ℕ) → k < listed i → time i k ≡ time j k
  -- "Raising latencies .. never makes a time earlier"
  pub raised_later : (i j : Inputs) → Raised i j → number i ≡ 0 → number j ≡ 0 → (k : ℕ) → k < listed i → time i k ≤ℤ time j k
  -- "and never turns "impossible" into an answer"
  pub raised_impossible : (i j : Inputs) → Raised i j → number i ≡ 15 → length j.times ≡ length i.times → number j ≡ 15
