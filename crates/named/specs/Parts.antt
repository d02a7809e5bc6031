-- A part of a line, and what the parts of the code leave.
use Rattle.std.specs.Prelude.{ℕ, ◌+◌, ◌-◌, ◌≤◌, min, ◌≡◌, List, length, take, drop}
use Rattle.named.specs.Words.{up_to, behind}
use Rattle.named.specs.declared.Span.{Span}

-- ---- a span is the part of the line that it cuts out

unfoldable pub cut : List ℕ → Span → List ℕ
cut line span = take (span.to - span.from) (drop span.from line)

-- a span that lies in the line, so that a caller may cut there
pub record Within (line : List ℕ) (span : Span) : Type 0 where
  pub ordered : span.from ≤ span.to
  pub inside : span.to ≤ length line

-- ---- a word

-- the word that begins at a place, and what is left behind it; past the end both are empty
pub record WordAt (separator : ℕ) (line : List ℕ) (at : ℕ) (span : Span) : Type 0 where
  pub within : Within line span
  pub starts : span.from ≡ min at (length line)
  pub is : cut line span ≡ up_to separator (drop at line)
  pub rest : drop (span.to + 1) line ≡ behind separator (drop at line)
