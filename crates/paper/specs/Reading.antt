-- Document 01, "line by line, the first bad line deciding": a trace as its lines, and the state over them.
use Rattle.std.specs.Prelude.{ℕ, ◌+◌, List, [], ◌∷◌, cond, get_or, set, replicate, ℤ, pos, negsuc, leb, eqb, Result, None, Ok}
use Rattle.std.specs.Int.Signed.{lt_z}
use Rattle.paper.specs.Line.{line_of}
use Rattle.paper.specs.Columns.{past_end, column_in, in_line, refused_at}
use Rattle.paper.specs.declared.Choice.{Choice}
use Rattle.paper.specs.declared.Fault.{Fault}
use Rattle.paper.specs.declared.Record.{Record}
use Rattle.paper.specs.declared.Entry.{Entry}
use Rattle.paper.specs.declared.Line.{Line}
use Rattle.paper.specs.declared.Line.TheVariants.{Refused, Passed, Listed}
use Rattle.paper.specs.declared.Refusal.{Refusal}

-- ---- lines

-- "A line ends with LF, the last one too": the lines of some bytes, of which the last may lack its LF
pub data Lines : Type 0 where
  done : Lines
  unended : List ℕ → Lines
  ended : List ℕ → Lines → Lines

-- the lines with one byte more in front of the first
unfoldable pub before : ℕ → Lines → Lines
before b done = unended (b ∷ [])
before b (unended l) = unended (b ∷ l)
before b (ended l more) = ended (b ∷ l) more

unfoldable pub lines_of : List ℕ → Lines
lines_of [] = done
lines_of (b ∷ s) = cond (eqb b 10) (ended [] (lines_of s)) (before b (lines_of s))

-- ---- the state over the lines

-- "the last listed time of each of the sixty-four processors", and how many lines were listed and passed over
pub record State : Type 0 where
  pub last : List ℤ
  pub listed : ℕ
  pub passed : ℕ

-- before its first listed record a processor's last time is the least that the format holds, which no time is below
unfoldable pub start : State
start = record { last = replicate 64 (negsuc 999999999999998); listed = 0; passed = 0 }

-- "11, 12", with room for `most` listed records
unfoldable pub checked : ℕ → State → Line → Line
checked most st (Refused fault spot) = Refused fault spot
checked most st Passed = Passed
checked most st (Listed r) =
    cond (lt_z r.time (get_or st.last r.processor (pos 0))) (Refused Fault.Backwards None)
    (cond (leb most st.listed) (Refused Fault.TooMany None) (Listed r))

-- one entry replaced at each listed line
unfoldable pub with_listed : State → Record → State
with_listed st r = record { last = set st.last r.processor r.time; listed = st.listed + 1; passed = st.passed }

unfoldable pub with_passed : State → State
with_passed st = record { last = st.last; listed = st.listed; passed = st.passed + 1 }

-- ---- the reading

-- where it ended, which is at the end of what there is or at what is refused, the listed records up to there in file order, and the state there
pub record Reading : Type 0 where
  pub stop : Result Unit Refusal
  pub entries : List Entry
  pub state : State

abbrev pub with_entry : Entry → Reading → Reading
with_entry e r = record { stop = r.stop; entries = e ∷ r.entries; state = r.state }

-- one that ends at a line, refused at a column of it
abbrev pub stops_at : Fault → ℕ → ℕ → State → Reading
stops_at fault n column st = record { stop = refused_at fault (in_line n column); entries = []; state = st }

-- the reading from line n on, a line checked and the lines after it read from a state
unfoldable pub on_line : ℕ → List ℕ → State → Line → (State → Reading) → Reading
on_line n l st (Refused fault spot) more = stops_at fault n (column_in l spot) st
on_line n l st Passed more = more (with_passed st)
on_line n l st (Listed r) more = with_entry (record { line = n; body = r }) (more (with_listed st r))

unfoldable pub read_from : Choice → ℕ → Lines → ℕ → State → Reading
read_from choice most done n st = record { stop = Ok tt; entries = []; state = st }
read_from choice most (unended l) n st = stops_at Fault.Form n (past_end l) st
read_from choice most (ended l more) n st =
    on_line n l st (checked most st (line_of choice l)) (λ st₁. read_from choice most more (n + 1) st₁)

-- "Lines count from 1."
unfoldable pub read_of : Choice → ℕ → List ℕ → Reading
read_of choice most s = read_from choice most (lines_of s) 1 start
