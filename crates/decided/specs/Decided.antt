-- What is decided of two files without their bytes: whether they are judged, whether the written trace is stored, and what is said then;
-- and what is said when two traces were to be merged.
use Rattle.std.specs.Prelude.{Bool, true, false, ◌&&◌, eqb, Result, Ok, Err}
use Rattle.paper.specs.Columns.{nowhere}
use Rattle.paper.specs.declared.Answer.{Answer}
use Rattle.paper.specs.declared.Fault.TheVariants as Fault
use Rattle.paper.specs.declared.Merged.{Merged}
use Rattle.answer.specs.Answers.{refusal}
use Rattle.report.specs.declared.Replied.{Replied}
use Rattle.report.specs.declared.Said.{Said}
use Rattle.paper.specs.declared.Unmerged.{Unmerged}
use Rattle.paper.specs.declared.Joined.{Joined}

-- by whether the trace and the table could be read, and whether the table has its length
unfoldable pub ready_of : (read got fits : Bool) → Result Unit Said
ready_of false got fits = Err Said.CannotRead
ready_of true false fits = Err Said.CannotRead
ready_of true true false = Err (Said.Answered (refusal Fault.WrongLength nowhere))
ready_of true true true = Ok tt

-- only an accepted trace that is wanted goes to its file
unfoldable pub storing : Bool → Answer → Bool
storing wanted answer = wanted && eqb answer.number 0

-- the report, or that what was to be stored could not be
unfoldable pub end_of : (storing : Bool) → Answer → (stored : Bool) → Said
end_of false answer stored = Said.Answered answer
end_of true answer true = Said.Answered answer
end_of true answer false = Said.CannotWrite

-- what two traces came to as one, or that it could not be stored; a refusal is told in its numbers
unfoldable pub after_merging : Result Joined Unmerged → Merged → (stored : Bool) → Replied
after_merging (Err why) merged stored = Replied.Refused merged
after_merging (Ok joined) merged true = Replied.Merged joined
after_merging (Ok joined) merged false = Replied.CannotWrite
