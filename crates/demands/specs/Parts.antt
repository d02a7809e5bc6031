-- The parts of what a call comes to, by name.
use Rattle.std.specs.Prelude.{ℕ, List, take, ℤ}
use Rattle.paper.specs.Clock.{time_at}
use Rattle.paper.specs.Columns.{in_line}
use Rattle.paper.specs.Answer.{Inputs, judge}
use Rattle.paper.specs.declared.Site.{Site}

abbrev pub number : Inputs → ℕ
number i = (judge i).answer.number

abbrev pub line : Inputs → ℕ
line i = (judge i).answer.line

abbrev pub column : Inputs → ℕ
column i = (judge i).answer.column

-- where it is refused
abbrev pub site : Inputs → Site
site i = in_line (line i) (column i)

abbrev pub verdict : Inputs → ℕ
verdict i = (judge i).answer.verdict

abbrev pub listed : Inputs → ℕ
listed i = (judge i).answer.listed

abbrev pub passed : Inputs → ℕ
passed i = (judge i).answer.passed

abbrev pub matched : Inputs → ℕ
matched i = (judge i).answer.matched

abbrev pub unreceived : Inputs → ℕ
unreceived i = (judge i).answer.unreceived

abbrev pub rounds : Inputs → ℕ
rounds i = (judge i).answer.rounds

abbrev pub written : Inputs → ℕ
written i = (judge i).answer.written

-- the time that the k-th lent place holds afterwards, k counted from 0, and the times in the first places
abbrev pub time : Inputs → ℕ → ℤ
time i = time_at (judge i).times

abbrev pub corrected : Inputs → List ℤ
corrected i = take (listed i) (judge i).times

-- the written trace
abbrev pub written_trace : Inputs → List ℕ
written_trace i = take (written i) (judge i).room
