-- The two kinds of lines. Every line ends with LF.
use Rattle.std.specs.Prelude.{ℕ, List, ◌++◌, ℤ}
use Rattle.io.specs.Counts.{IsPrefixLen}
use Rattle.paper.specs.Text.{bytes_of}
use Rattle.report.specs.Put.{Put}
use Rattle.report.specs.Report.{named, numbered}
use Rattle.lines.specs.Parts.{timed, whole_shown, record_shown}
use Rattle.lines.specs.declared.Cause.{Cause}
use Rattle.lines.specs.declared.Cause.TheVariants.{Original, Before, Kept, Sent}
use Rattle.lines.specs.declared.Stamped.{Stamped}

-- ---- a message: "each with its send's place and its receive's place", by their lines and with their corrected times

unfoldable pub party_shown : List ℕ → Stamped → List ℕ
party_shown word s = record_shown word s ++ timed (bytes_of " time ") s.corrected

-- a receive may have taken fewer bytes than were sent (change request 4), so that both lengths are told
unfoldable pub sizes_shown : ℕ → ℕ → ℤ → List ℕ
sizes_shown received sent tag =
    named (bytes_of " length ") received
    ++ (named (bytes_of " of ") sent ++ (bytes_of " type " ++ (whole_shown tag ++ bytes_of "\n")))

unfoldable pub message_shown : (send receive : Stamped) → (received sent : ℕ) → ℤ → List ℕ
message_shown send receive received sent tag =
    party_shown (bytes_of "send line ") send ++ (party_shown (bytes_of " receive line ") receive ++ sizes_shown received sent tag)

-- ---- a record of a chain: "to a record still at its original time, each step to the record before it on its processor or to its send"

-- "that many thousandths of their original gap": what is kept, of which gap, and behind which line
unfoldable pub kept_shown : (kept gap line : ℕ) → List ℕ
kept_shown kept gap line =
    named (bytes_of " keeps ") kept ++ (named (bytes_of " of ") gap ++ numbered (bytes_of " microseconds after line ") line)

unfoldable pub cause_shown : Cause → List ℕ
cause_shown Original = bytes_of " at its original\n"
cause_shown Before = bytes_of " waits for the record before it\n"
cause_shown (Kept kept gap line) = kept_shown kept gap line
cause_shown (Sent latency) = numbered (bytes_of " waits for its send, latency ") latency

unfoldable pub times_shown : Stamped → List ℕ
times_shown s = timed (bytes_of " original ") s.original ++ timed (bytes_of " corrected ") s.corrected

unfoldable pub step_shown : Stamped → Cause → List ℕ
step_shown s cause = record_shown (bytes_of "line ") s ++ (times_shown s ++ cause_shown cause)

-- ---- the statement of both: the line at the room's start, the rest as it was. That its length counts within the room follows from
-- this, and is said for those who lend that part.
pub record LineInto (text : List ℕ) (room : List ℕ) (length : ℕ) (after : List ℕ) : Type 0 where
  pub put : Put room 0 text length after
  pub counts : IsPrefixLen length after
