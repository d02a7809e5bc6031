-- Document 01, "What the base covers": what a program says of its files, in its order. The system tells three things, which are given
-- here: either file as it could be read, and whether the file for the written trace could be written.
use Rattle.std.specs.Prelude.{ℕ, Bool, cond, List, length, replicate, ℤ, pos, eqb, Option, Some, None}
use Rattle.paper.specs.Columns.{nowhere}
use Rattle.paper.specs.Answer.{judge}
use Rattle.paper.specs.declared.Answer.{Answer}
use Rattle.paper.specs.declared.Asked.{Asked}
use Rattle.paper.specs.declared.Fault.TheVariants as Fault
use Rattle.answer.specs.Answers.{refusal}
use Rattle.table.specs.Table.{latencies_of}
use Rattle.report.specs.declared.Said.{Said}
use Rattle.decided.specs.Decided.{storing, end_of}

-- ---- the judgement

-- "The lent times are exactly 2,048 signed 64-bit places."
unfoldable pub lent_times : List ℤ
lent_times = replicate 2048 (pos 0)

-- "with room for 65,536 bytes"
unfoldable pub lent_room : List ℕ
lent_room = replicate 65536 0

unfoldable pub answer_of : (asked : Asked) (wanted : Bool) (trace latencies : List ℕ) → Answer
answer_of asked wanted trace latencies =
    (judge (record { trace = trace; latencies = latencies; asked = asked; times = lent_times; wanted = wanted; room = lent_room })).answer

unfoldable pub on_latencies : (asked : Asked) (wanted : Bool) (trace latencies : List ℕ) (stored : Bool) → Said
on_latencies asked wanted trace latencies stored =
    let answer = answer_of asked wanted trace latencies in end_of (storing wanted answer) answer stored

-- ---- the files

-- "The table file is 16,384 bytes, .. any other length being refusal 2."
unfoldable pub on_table : (asked : Asked) (wanted : Bool) (trace table : List ℕ) (stored : Bool) → Said
on_table asked wanted trace table stored =
    let judged = on_latencies asked wanted trace (latencies_of table) stored in
    cond (eqb (length table) 16384) judged (Said.Answered (refusal Fault.WrongLength nowhere))

-- "a file that can't be read .. gives the single line "cannot read"": either file, before all else that is asked of them
unfoldable pub on_files : (asked : Asked) (wanted : Bool) (trace table : Option (List ℕ)) (stored : Bool) → Said
on_files asked wanted None table stored = Said.CannotRead
on_files asked wanted (Some trace) None stored = Said.CannotRead
on_files asked wanted (Some trace) (Some table) stored = on_table asked wanted trace table stored
