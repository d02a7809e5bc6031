-- What the lines are made of: numbers and times as they are shown.
use Rattle.std.specs.Prelude.{ℕ, suc, cond, List, [], ◌++◌, ℤ, pos, negsuc, nat_abs, leb}
use Rattle.paper.specs.Text.{bytes_of}
use Rattle.paper.specs.Forms.{time_shown}
use Rattle.report.specs.Report.{shown, named}
use Rattle.lines.specs.declared.Stamped.{Stamped}

-- a time as the format writes it; nothing of one that has no form, and an accepted trace has none such
unfoldable pub stamp_shown : ℤ → List ℕ
stamp_shown time = cond (leb (nat_abs time) 999999999999999) (time_shown time) []

-- a word and a time
unfoldable pub timed : List ℕ → ℤ → List ℕ
timed word time = word ++ stamp_shown time

-- a signed number, in as many digits as it has
unfoldable pub whole_shown : ℤ → List ℕ
whole_shown (pos n) = shown n
whole_shown (negsuc n) = named (bytes_of "-") (suc n)

-- where a record stands, behind a word that names it
unfoldable pub record_shown : List ℕ → Stamped → List ℕ
record_shown word s = named word s.line ++ named (bytes_of " processor ") s.processor
