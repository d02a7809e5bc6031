-- All that the program says which merges two traces, as bytes. The sixth change request: "each says which trace it means, 0 for neither".
-- The lines that it has in common with the others are theirs.
use Rattle.std.specs.Prelude.{ℕ, List, ◌++◌}
use Rattle.io.specs.Counts.{IsPrefixLen}
use Rattle.paper.specs.Text.{bytes_of}
use Rattle.paper.specs.declared.Joined.{Joined}
use Rattle.paper.specs.declared.Merged.{Merged}
use Rattle.paper.specs.declared.Tally.{Tally}
use Rattle.report.specs.Put.{Put}
use Rattle.report.specs.Report.{named, numbered, place_shown}
use Rattle.report.specs.Said.{said_shown}
use Rattle.report.specs.declared.Said.TheVariants as Said
use Rattle.report.specs.declared.Replied.{Replied}

-- a refusal, the trace that it means behind its number
unfoldable pub unmerged_shown : Merged → List ℕ
unmerged_shown m =
    named (bytes_of "refused ") m.number ++ (named (bytes_of " trace ") m.which ++ place_shown m.line m.column)

-- what was counted of a trace, behind a word that names it
unfoldable pub tally_shown : List ℕ → Tally → List ℕ
tally_shown word t = named word t.listed ++ numbered (bytes_of " passed ") t.passed

unfoldable pub merged_shown : Joined → List ℕ
merged_shown j =
    named (bytes_of "merged ") j.lines
    ++ (bytes_of " lines\n"
    ++ (tally_shown (bytes_of "trace 1 listed ") j.first
    ++ tally_shown (bytes_of "trace 2 listed ") j.second))

unfoldable pub replied_shown : Replied → List ℕ
replied_shown (Replied.Refused merged) = unmerged_shown merged
replied_shown (Replied.Merged joined) = merged_shown joined
replied_shown Replied.CannotRead = said_shown Said.CannotRead
replied_shown Replied.CannotWrite = said_shown Said.CannotWrite
replied_shown Replied.TooMany = said_shown Said.TooMany

-- the statement of `reply`, as that of `say`
pub record RepliedInto (replied : Replied) (room : List ℕ) (length : ℕ) (after : List ℕ) : Type 0 where
  pub put : Put room 0 (replied_shown replied) length after
  pub counts : IsPrefixLen length after
