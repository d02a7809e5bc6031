-- Document 01, "The program's whole report, header and all" and "The other reports are ..". Every line ends with LF.
use Rattle.std.specs.Prelude.{ℕ, List, ◌++◌, cond, eqb}
use Rattle.io.specs.Counts.{IsPrefixLen}
use Rattle.io.specs.Digits.{last_digits}
use Rattle.paper.specs.Text.{bytes_of}
use Rattle.paper.specs.Forms.{places_from}
use Rattle.paper.specs.declared.Answer.{Answer}
use Rattle.report.specs.Put.{Put}

-- a number in as many digits as it has, at most twenty
unfoldable pub shown : ℕ → List ℕ
shown n = last_digits 10 (places_from 19 n) n

-- a word and a number
unfoldable pub named : List ℕ → ℕ → List ℕ
named word n = word ++ shown n

-- the same to the end of the line
unfoldable pub numbered : List ℕ → ℕ → List ℕ
numbered word n = named word n ++ bytes_of "\n"

unfoldable pub verdict_shown : ℕ → List ℕ
verdict_shown verdict =
    cond (eqb verdict 1)
    (bytes_of "verdict consistent\n")
    (cond (eqb verdict 2) (bytes_of "verdict corrected\n") (bytes_of "verdict nothing to judge\n"))

unfoldable pub accepted_shown : Answer → List ℕ
accepted_shown a =
    verdict_shown a.verdict
    ++ (numbered (bytes_of "listed ") a.listed
    ++ (numbered (bytes_of "passed ") a.passed
    ++ (numbered (bytes_of "matched ") a.matched
    ++ (numbered (bytes_of "unreceived ") a.unreceived
    ++ numbered (bytes_of "rounds ") a.rounds))))

-- where a call is refused, to the end of the line
abbrev pub place_shown : ℕ → ℕ → List ℕ
place_shown line column = named (bytes_of " line ") line ++ numbered (bytes_of " column ") column

-- "for a refusal one line", which the fifth change request makes "refused 5 line 812 column 31"
unfoldable pub refused_shown : ℕ → ℕ → ℕ → List ℕ
refused_shown number line column = named (bytes_of "refused ") number ++ place_shown line column

unfoldable pub report_of : Answer → List ℕ
report_of a = cond (eqb a.number 0) (accepted_shown a) (refused_shown a.number a.line a.column)

-- ---- the statement of `report`: the report at the room's start, the rest as it was. That its length counts within the room
-- follows from this, and is said for those who lend that part.
pub record Reported (answer : Answer) (room : List ℕ) (length : ℕ) (after : List ℕ) : Type 0 where
  pub put : Put room 0 (report_of answer) length after
  pub counts : IsPrefixLen length after
