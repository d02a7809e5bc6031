-- All that the program says, as bytes. Document 01: "the single line "cannot read"". The other two lines are the program's own.
use Rattle.std.specs.Prelude.{ℕ, List}
use Rattle.io.specs.Counts.{IsPrefixLen}
use Rattle.paper.specs.Text.{bytes_of}
use Rattle.report.specs.Put.{Put}
use Rattle.report.specs.Report.{report_of}
use Rattle.report.specs.declared.Said.{Said}
use Rattle.report.specs.declared.Said.TheVariants.{Answered, CannotRead, CannotWrite, TooMany}

unfoldable pub said_shown : Said → List ℕ
said_shown (Answered answer) = report_of answer
said_shown CannotRead = bytes_of "cannot read\n"
said_shown CannotWrite = bytes_of "cannot write\n"
said_shown TooMany = bytes_of "too many arguments\n"

-- the statement of `say`, as that of `report`
pub record Spoken (said : Said) (room : List ℕ) (length : ℕ) (after : List ℕ) : Type 0 where
  pub put : Put room 0 (said_shown said) length after
  pub counts : IsPrefixLen length after
