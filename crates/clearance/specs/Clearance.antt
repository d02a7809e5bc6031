-- "1 to 4": whether the lines are to be read.
use Rattle.std.specs.Prelude.{ℕ, cond, List, length, leb, Option, Result, Some, None, Ok, Err}
use Rattle.paper.specs.Answer.{Given, heard, right_sizes, low_latencies, longest}
use Rattle.paper.specs.declared.Asked.{Asked}
use Rattle.paper.specs.declared.Choice.{Choice}
use Rattle.paper.specs.declared.Fault.{Fault}

-- what a call is given of which 1 to 4 are asked
abbrev pub given_of : (trace latencies : List ℕ) → Asked → ℕ → Given
given_of trace latencies asked places = record { trace = trace; latencies = latencies; asked = asked; places = places }

-- 2 to 4, behind a choice
unfoldable pub cleared_under : Choice → Given → Result Choice Fault
cleared_under choice g =
    cond (right_sizes g)
    (cond (low_latencies g.latencies) (cond (leb (length g.trace) longest) (Ok choice) (Err Fault.LongTrace)) (Err Fault.HighLatency))
    (Err Fault.WrongLength)

unfoldable pub cleared_by : Given → Option Choice → Result Choice Fault
cleared_by g None = Err Fault.BadChoice
cleared_by g (Some choice) = cleared_under choice g

unfoldable pub clearance : Given → Result Choice Fault
clearance g = cleared_by g (heard g.asked)
