-- What the functions behind 1 to 4 have in hand, and what they come to. Of what the caller named the levels, the statistics and the share are
-- still asked, and how many times are lent is not.
use Rattle.std.specs.Prelude.{ℕ, ◌≤◌, ◌≡◌, List, length, take, ℤ, Result, Ok, Err}
use Rattle.paper.specs.Answer.{on_read}
use Rattle.paper.specs.Columns.{nowhere}
use Rattle.paper.specs.Reading.{Reading}
use Rattle.paper.specs.Statistics.{summed}
use Rattle.paper.specs.declared.Asked.{Asked}
use Rattle.paper.specs.declared.Choice.{Choice}
use Rattle.paper.specs.declared.Entry.{Entry}
use Rattle.paper.specs.declared.Fault.{Fault}
use Rattle.solve.specs.Outcome.{solved_by}
use Rattle.statistics.specs.Ready.{Holding}
use Rattle.clearance.specs.Clearance.{given_of}
use Rattle.reach.specs.Reach.{reaches}
use Rattle.solve.specs.declared.Unsolved.{Unsolved}
use Rattle.reach.specs.declared.Unreached.{Unreached}
use Rattle.answer.specs.declared.Counts.{Counts}

-- slices for n records each, so few that their times are summed; a place is then a number of 32 bits
pub record Sized (n : ℕ) (sends before gap latency : List ℕ) (times spare : List ℤ) : Type 0 where
  pub few : n ≤ summed
  pub all_sends : length sends ≡ n
  pub all_before : length before ≡ n
  pub all_gap : length gap ≡ n
  pub all_latency : length latency ≡ n
  pub all_times : length times ≡ n
  pub all_spare : length spare ≡ n

-- ---- from the records on

-- a fault that stands at no place
abbrev pub fault_as : Fault → Unreached
fault_as fault = Unreached.Refused (record { fault = fault; site = nowhere })

-- why there are no times, told as how far the call comes
abbrev pub unsolved_as : Unsolved → Unreached
unsolved_as (Unsolved.Refused refusal) = Unreached.Refused refusal
unsolved_as Unsolved.Impossible = fault_as Fault.NoTimes
unsolved_as Unsolved.Misfit = Unreached.Misfit

-- an answer to the records, told as how far the call comes
unfoldable pub as_reached : ℕ → ℕ → Result (ℕ × ℕ × ℕ) Unsolved → Result Counts Unreached
as_reached listed passed (Ok (matched, unreceived, rounds)) =
    Ok (record { listed = listed; passed = passed; matched = matched; unreceived = unreceived; rounds = rounds })
as_reached listed passed (Err unsolved) = Err (unsolved_as unsolved)

pub record SettledBy (share : ℕ) (latencies : List ℕ) (es : List Entry) (listed passed : ℕ) (r : Result Counts Unreached) (sends : List ℕ) (times : List ℤ) : Type 0 where
  pub answer : Result (ℕ × ℕ × ℕ) Unsolved
  pub is : r ≡ as_reached listed passed answer
  pub solves : solved_by share latencies es answer (take listed sends) (take listed times)

-- ---- from the lines on

-- the records beside the trace that they were read from, and slices with a place for each
pub record Comparable (trace store : List ℕ) (listed : ℕ) (before latency : List ℕ) (times spare : List ℤ) : Type 0 where
  pub few : listed ≤ summed
  pub in_before : listed ≤ length before
  pub all_latency : length latency ≡ length before
  pub all_times : length times ≡ length before
  pub all_spare : length spare ≡ length before
  pub holding : Holding trace store listed

unfoldable pub from_lines : (trace latencies : List ℕ) → Asked → Choice → Reading → Result Counts Unreached → (store sends : List ℕ) → List ℤ → Type 0
from_lines trace latencies asked choice r answer store sends times =
    (places : ℕ)
    → reaches trace (on_read (given_of trace latencies asked places) choice r r.stop) answer store sends times
