-- A line by the place where it starts: the line without its LF, and where the line after it starts.
use Rattle.std.specs.Prelude.{ℕ, ◌+◌, List, take, drop}
use Rattle.octets.specs.Octets.{index_of}

unfoldable pub line_at : List ℕ → ℕ → List ℕ
line_at s at = take (index_of 10 (drop at s)) (drop at s)

unfoldable pub next_line : List ℕ → ℕ → ℕ
next_line s at = at + index_of 10 (drop at s) + 1
