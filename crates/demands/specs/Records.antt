-- The records of a trace, line by line, where none is refused.
use Rattle.std.specs.Prelude.{ℕ, suc, ◌+◌, List, [], ◌∷◌}
use Rattle.paper.specs.Line.{line_of}
use Rattle.paper.specs.Reading.{Lines, done, unended, ended}
use Rattle.paper.specs.declared.Choice.{Choice}
use Rattle.paper.specs.declared.Entry.{Entry}
use Rattle.paper.specs.declared.Line.{Line}
use Rattle.paper.specs.declared.Line.TheVariants.{Refused, Passed, Listed}

-- the listed ones from line n on, in file order
unfoldable pub listed_first : ℕ → Line → List Entry → List Entry
listed_first n (Refused fault spot) more = more
listed_first n Passed more = more
listed_first n (Listed r) more = record { line = n; body = r } ∷ more

unfoldable pub records_from : Choice → ℕ → Lines → List Entry
records_from choice n done = []
records_from choice n (unended l) = []
records_from choice n (ended l x) = listed_first n (line_of choice l) (records_from choice (n + 1) x)

-- how many are passed over
unfoldable pub passed_first : Line → ℕ → ℕ
passed_first (Refused fault spot) more = more
passed_first Passed more = suc more
passed_first (Listed r) more = more

unfoldable pub passed_in : Choice → Lines → ℕ
passed_in choice done = 0
passed_in choice (unended l) = 0
passed_in choice (ended l x) = passed_first (line_of choice l) (passed_in choice x)
