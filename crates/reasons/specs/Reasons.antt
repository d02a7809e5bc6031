-- The seventh change request, "the chain that moved it: from that record back, step by step, to a record still at its original time, each
-- step to the record before it on its processor or to its send", as text; and of the ninth, "by at least that many thousandths of their
-- original gap", how much is kept. The record before each one, the gap to keep from it and the latency from its send are given as tables
-- (`befores_of`, `gaps_of`, `latencies_of`, waits/specs/Tables.antt); a number past the end of a table is 0.
use Rattle.std.specs.Prelude.{ℕ, ◌/◌, ◌≤◌, ◌<◌, ◌≡◌, cond, List, [], ◌∷◌, ◌++◌, length, get_or, ℤ, pos, ◌+ℤ◌, eqb}
use Rattle.io.specs.Counts.{IsPrefixLen}
use Rattle.paper.specs.Tests.{eq_z}
use Rattle.paper.specs.Gaps.{apart}
use Rattle.paper.specs.Clock.{time_at}
use Rattle.paper.specs.declared.Entry.{Entry}
use Rattle.report.specs.Put.{Put}
use Rattle.lines.specs.Lines.{step_shown}
use Rattle.lines.specs.Records.{stamped_at}
use Rattle.lines.specs.declared.Cause.{Cause}
use Rattle.lines.specs.declared.Cause.TheVariants.{Original, Before, Kept, Sent}
use Rattle.lines.specs.declared.Stamped.{Stamped}

-- ---- why a record has its time

-- by the processor: what is kept, of the gap between the two original times, and the earlier one's line. Where nothing is kept, no gap is
-- told
unfoldable pub by_processor : (kept : ℕ) (earlier own : Stamped) → Cause
by_processor kept earlier own = cond (eqb kept 0) Before (Kept kept (apart earlier.original own.original) earlier.line)

-- a step to record j, which is the record before: by the processor where it was waited for exactly so long, else by the send
unfoldable pub cause_behind : List Entry → List ℤ → (kept latency i j : ℕ) → Cause
cause_behind es times kept latency i j =
    cond (eq_z (time_at times i) (time_at times j +ℤ pos kept))
    (by_processor kept (stamped_at es (time_at times) j) (stamped_at es (time_at times) i))
    (Sent latency)

-- a step to record j: by the send where that is not the record before. Where the send is also the record before, both steps are one
unfoldable pub cause_by : List Entry → List ℤ → (before gap latency : List ℕ) → ℕ → ℕ → Cause
cause_by es times before gap latency i j =
    cond (eqb (get_or before i 0) j) (cause_behind es times (get_or gap i 0) (get_or latency i 0) i j) (Sent (get_or latency i 0))

-- by what comes behind it in the chain: the last one is still at its original time
unfoldable pub cause_of : List Entry → List ℤ → (before gap latency : List ℕ) → ℕ → List ℕ → Cause
cause_of es times before gap latency i [] = Original
cause_of es times before gap latency i (j ∷ more) = cause_by es times before gap latency i j

-- ---- the text

unfoldable pub reason_of : List Entry → List ℤ → (before gap latency : List ℕ) → ℕ → List ℕ → List ℕ
reason_of es times before gap latency i more = step_shown (stamped_at es (time_at times) i) (cause_of es times before gap latency i more)

unfoldable pub reasons_of : List Entry → List ℤ → (before gap latency : List ℕ) → List ℕ → List ℕ
reasons_of es times before gap latency [] = []
reasons_of es times before gap latency (i ∷ more) = reason_of es times before gap latency i more ++ reasons_of es times before gap latency more

-- ---- the statement of `put_reasons`: a room that has no line for each record is not touched
pub record ReasonsInto (text : List ℕ) (records : ℕ) (room : List ℕ) (end : ℕ) (after : List ℕ) : Type 0 where
  pub there : records ≤ length room / 256 → Put room 0 text end after
  pub misfit : length room / 256 < records → (end ≡ 0) × (after ≡ room)
  pub counts : IsPrefixLen end after
