-- What the programs `messages CHOICE TRACE TABLE` and `why CHOICE TRACE TABLE LINE [SHARE]` say, in their order. The system tells two
-- things, which are given here: either file as it could be read.
use Rattle.std.specs.Prelude.{ℕ, cond, List, length, eqb, Option, Result, Some, None, Ok, Err}
use Rattle.io.specs.Counts.{IsPrefixLen}
use Rattle.paper.specs.Columns.{nowhere}
use Rattle.paper.specs.declared.Asked.{Asked}
use Rattle.paper.specs.declared.Fault.TheVariants as Fault
use Rattle.answer.specs.Answers.{refusal}
use Rattle.table.specs.Table.{latencies_of}
use Rattle.report.specs.Put.{Put}
use Rattle.report.specs.Said.{said_shown}
use Rattle.report.specs.declared.Said.{Said}
use Rattle.showing.specs.Shown.{on_trace}
use Rattle.showing.specs.declared.Shows.{Shows}
use Rattle.inquiry.specs.Arguments.{start_of}

-- ---- the files

-- "The table file is 16,384 bytes, .. any other length being refusal 2."
unfoldable pub on_table : Shows → Asked → (line trace table : List ℕ) → List ℕ
on_table shows asked line trace table =
    let judged = on_trace shows asked line trace (latencies_of table) in
    cond (eqb (length table) 16384) judged (said_shown (Said.Answered (refusal Fault.WrongLength nowhere)))

-- either file that can't be read, before all else that is asked of them
unfoldable pub on_files : Shows → Asked → (line : List ℕ) (trace table : Option (List ℕ)) → List ℕ
on_files shows asked line None table = said_shown Said.CannotRead
on_files shows asked line (Some trace) None = said_shown Said.CannotRead
on_files shows asked line (Some trace) (Some table) = on_table shows asked line trace table

-- ---- the arguments

unfoldable pub on_start : Shows → (line : List ℕ) → Result Asked Said → (trace table : Option (List ℕ)) → List ℕ
on_start shows line (Err said) trace table = said_shown said
on_start shows line (Ok asked) trace table = on_files shows asked line trace table

unfoldable pub said_of : Shows → (count : ℕ) (choice line share : List ℕ) (trace table : Option (List ℕ)) → List ℕ
said_of shows count choice line share trace table = on_start shows line (start_of shows count choice share) trace table

-- ---- the text at the start of a room

-- by what the system told of the files
pub record TextInto (text : Option (List ℕ) → Option (List ℕ) → List ℕ) (room : List ℕ) (end : ℕ) (after : List ℕ) : Type 0 where
  pub trace : Option (List ℕ)
  pub table : Option (List ℕ)
  pub put : Put room 0 (text trace table) end after
  pub counts : IsPrefixLen end after
