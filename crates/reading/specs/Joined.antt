-- Lines one after the other, and a reading that goes on where another ended.
use Rattle.std.specs.Prelude.{ℕ, suc, List, ◌++◌, Result, Ok, Err}
use Rattle.paper.specs.Reading.{Lines, done, unended, ended, State, Reading}
use Rattle.paper.specs.declared.Entry.{Entry}
use Rattle.paper.specs.declared.Refusal.{Refusal}

-- each line has its LF
unfoldable pub AllEnded : Lines → Type 0
AllEnded done = Unit
AllEnded (unended l) = ⊥
AllEnded (ended l more) = AllEnded more

-- how many lines have their LF
unfoldable pub line_count : Lines → ℕ
line_count done = 0
line_count (unended l) = 0
line_count (ended l more) = suc (line_count more)

-- the lines of y after those of x
unfoldable pub followed : Lines → Lines → Lines
followed done y = y
followed (unended l) y = unended l
followed (ended l x) y = ended l (followed x y)

-- entries before those of a reading
abbrev pub behind : List Entry → Reading → Reading
behind es r = record { stop = r.stop; entries = es ++ r.entries; state = r.state }

-- a reading, and where it came to its end what is read from its state on
unfoldable pub resumed : Reading → (State → Reading) → Result Unit Refusal → Reading
resumed r more (Ok tt) = behind r.entries (more r.state)
resumed r more (Err refusal) = r
