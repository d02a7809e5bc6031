-- The line that starts at a place of a trace: where it ends, and its timestamp.
use Rattle.std.specs.Prelude.{ℕ, ◌≡◌, List, cond, length, leb}
use Rattle.paper.specs.Merging.{stamp_of}
use Rattle.reading.specs.Places.{line_at, next_line}
use Rattle.heads.specs.declared.Head.{Head}

-- where the next line starts, or the trace's end where there is no LF
unfoldable pub end_in : List ℕ → ℕ → ℕ
end_in s at = cond (leb (next_line s at) (length s)) (next_line s at) (length s)

pub record HeadAt (s : List ℕ) (at : ℕ) (h : Head) : Type 0 where
  pub from : h.from ≡ at
  pub to : h.to ≡ end_in s at
  pub time : h.time ≡ stamp_of (line_at s at)
