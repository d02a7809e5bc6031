-- The call, and what the functions below it have in hand.
use Rattle.std.specs.Prelude.{ℕ, ◌≤◌, ◌≡◌, List, Bool, true, false, length, ℤ, Result, Ok, Err}
use Rattle.paper.specs.Answer.{Inputs, Outcome, given, reach, judge}
use Rattle.paper.specs.declared.Asked.{Asked}
use Rattle.paper.specs.declared.Answer.{Answer}
use Rattle.reach.specs.Reach.{reaches}
use Rattle.writing.specs.Outcome.{WrittenInto}
use Rattle.answer.specs.declared.Counts.{Counts}
use Rattle.ending.specs.Ending.{EndedBy}
use Rattle.reach.specs.declared.Unreached.{Unreached}
use Rattle.writing.specs.declared.Unwritten.{Unwritten}

-- what a call is given, and what it leaves
abbrev pub inputs : (trace latencies : List ℕ) → Asked → List ℤ → Bool → List ℕ → Inputs
inputs trace latencies asked times wanted room =
    record { trace = trace; latencies = latencies; asked = asked; times = times; wanted = wanted; room = room }

abbrev pub outcome : Answer → List ℤ → List ℕ → Outcome
outcome answer times room = record { answer = answer; times = times; room = room }

-- ---- the ending

-- the room where the written trace is wanted, and where it is not
unfoldable pub wrote_by : Bool → (trace store : List ℕ) → List ℤ → List ℕ → Result ℕ Unwritten → List ℕ → Type 0
wrote_by true trace store new room done room' = WrittenInto trace store new room done room'
wrote_by false trace store new room done room' = (done ≡ Ok 0) × (room' ≡ room)

pub record FinishedBy (counts : Counts) (trace store : List ℕ) (new times : List ℤ) (wanted : Bool) (room : List ℕ) (r : Answer) (times' : List ℤ) (room' : List ℕ) : Type 0 where
  pub done : Result ℕ Unwritten
  pub wrote : wrote_by wanted trace store new room done room'
  pub ends : EndedBy counts done new times r times'

-- a place for each listed record among the new times
unfoldable pub WithPlaces : Result Counts Unreached → List ℤ → Type 0
WithPlaces (Ok counts) new = counts.listed ≤ length new
WithPlaces (Err (Unreached.Refused refusal)) new = Unit
WithPlaces (Err Unreached.Misfit) new = Unit

-- whatever the table and what the caller named: where the call came so far with them, it comes to this
unfoldable pub ConcludedBy : Result Counts Unreached → (trace store : List ℕ) → (new times : List ℤ) → Bool → List ℕ → Answer → List ℤ → List ℕ → Type 0
ConcludedBy reached trace store new times wanted room r times' room' =
    (latencies : List ℕ) (asked : Asked) (sends : List ℕ)
    → reaches trace (reach (given (inputs trace latencies asked times wanted room))) reached store sends new
    → outcome r times' room' ≡ judge (inputs trace latencies asked times wanted room)
