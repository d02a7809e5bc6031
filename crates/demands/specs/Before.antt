-- "line by line, the first bad line deciding": how far a call comes, with every line before there good.
use Rattle.std.specs.Prelude.{ℕ, ◌+◌, ◌<◌, ◌≡◌, List, [], ◌∷◌, ◌++◌, length, ◌<ℤ◌, Some}
use Rattle.paper.specs.Line.{line_of}
use Rattle.paper.specs.Reading.{Lines, ended, lines_of}
use Rattle.paper.specs.Matching.{last_on}
use Rattle.paper.specs.Answer.{Inputs, given, most}
use Rattle.paper.specs.declared.Choice.{Choice}
use Rattle.paper.specs.declared.Entry.{Entry}
use Rattle.paper.specs.declared.Line.TheVariants.{Passed, Listed}
use Rattle.paper.specs.declared.Record.{Record}
use Rattle.demands.specs.Steps.{Begun, original}

-- "time below the last listed time of the same processor", for a record after these
abbrev pub Below : List Entry → Record → Type 0
Below es r = (k : ℕ) × (last_on es r.processor (length es) ≡ Some k) × (r.time <ℤ original es k)

-- each of these lines before line n is good: passed over, or listed without calling for 11 or 12. Then the records listed there, and the
-- lines from n on
pub data Good (choice : Choice) (limit : ℕ) (lines : Lines) : ℕ → List Entry → Lines → Type 0 where
  -- "Lines count from 1."
  none_before : Good choice limit lines 1 [] lines
  passed_over : {n : ℕ} {es : List Entry} {l : List ℕ} {rest : Lines} → Good choice limit lines n es (ended l rest)
      → line_of choice l ≡ Passed → Good choice limit lines (n + 1) es rest
  listed : {n : ℕ} {es : List Entry} {l : List ℕ} {rest : Lines} {r : Record} → Good choice limit lines n es (ended l rest)
      → line_of choice l ≡ Listed r → ¬ Below es r → length es < limit
      → Good choice limit lines (n + 1) (es ++ (record { line = n; body = r } ∷ [])) rest

-- 1 to 4 are passed, and the lines before line n are good; `rest` are those from n on
pub record ComesTo (i : Inputs) (n : ℕ) (rest : Lines) : Type 0 where
  pub choice : Choice
  pub begun : Begun i choice
  -- the records listed so far, in file order
  pub before : List Entry
  pub good : Good choice (most (given i)) (lines_of i.trace) n before rest

-- so far, and line n has its LF
pub record AtLine (i : Inputs) (n : ℕ) : Type 0 where
  pub line : List ℕ
  pub later : Lines
  pub comes : ComesTo i n (ended line later)
