-- Where the lines of a trace start.
use Rattle.std.specs.Prelude.{ℕ, zero, suc, ◌+◌, ◌-◌, List, length}
use Rattle.paper.specs.Reading.{Lines, done, unended, ended, lines_of}

-- how many bytes the first k lines take, each with its LF
unfoldable pub bytes_before : ℕ → Lines → ℕ
bytes_before zero x = 0
bytes_before (suc k) done = 0
bytes_before (suc k) (unended l) = 0
bytes_before (suc k) (ended l x) = length l + 1 + bytes_before k x

-- where line n starts; "Lines count from 1."
unfoldable pub start_of : List ℕ → ℕ → ℕ
start_of s n = bytes_before (n - 1) (lines_of s)
