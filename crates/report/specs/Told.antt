-- All that the program says which makes a table of latencies, as bytes. The lines that it has in common with the other are that one's.
use Rattle.std.specs.Prelude.{ℕ, List, ◌++◌}
use Rattle.io.specs.Counts.{IsPrefixLen}
use Rattle.paper.specs.Text.{bytes_of}
use Rattle.report.specs.Put.{Put}
use Rattle.report.specs.Report.{named, numbered}
use Rattle.report.specs.Said.{said_shown}
use Rattle.report.specs.declared.Said.TheVariants as Said
use Rattle.report.specs.declared.Told.{Told}
use Rattle.report.specs.declared.Told.TheVariants.{Written, BadLine, Uncovered, TooLong, CannotRead, CannotWrite, TooMany}

unfoldable pub pair_shown : ℕ → ℕ → List ℕ
pair_shown sender receiver = named (bytes_of "refused pair ") sender ++ numbered (bytes_of " ") receiver

unfoldable pub told_shown : Told → List ℕ
told_shown Written = bytes_of "table written\n"
told_shown (BadLine line) = numbered (bytes_of "refused line ") line
told_shown (Uncovered sender receiver) = pair_shown sender receiver
told_shown TooLong = bytes_of "refused too long\n"
told_shown CannotRead = said_shown Said.CannotRead
told_shown CannotWrite = said_shown Said.CannotWrite
told_shown TooMany = said_shown Said.TooMany

-- the statement of `tell`, as that of `say`
pub record ToldInto (told : Told) (room : List ℕ) (length : ℕ) (after : List ℕ) : Type 0 where
  pub put : Put room 0 (told_shown told) length after
  pub counts : IsPrefixLen length after
