-- What the places of the table hold while the lines are read, and what the code's parts leave in them.
use Rattle.std.specs.Prelude.{ℕ, ◌/◌, ◌%◌, ◌≤◌, ◌<◌, ◌≡◌, Bool, cond, ◌&&◌, List, length, get_or, leb, ltb, Option, Some, None, Ok}
use Rattle.paper.specs.Reading.{lines_of}
use Rattle.rule.specs.Rule.{covers}
use Rattle.rule.specs.declared.Who.{Who}
use Rattle.rule.specs.declared.Rule.{Rule}
use Rattle.text.specs.Text.{first_bad, said_of, table_of, Made, on_bad, made_of}
use Rattle.text.specs.declared.spans.Span.{Span}

-- ---- a place

-- a number above 1,000,000 stands for a latency of which nothing is said
unfoldable pub said_by : ℕ → Option ℕ
said_by n = cond (leb n 1000000) (Some n) None

unfoldable pub held : List ℕ → ℕ → Option ℕ
held latencies k = said_by (get_or latencies k 0)

-- a table of which nothing is said
pub record Unsaid (latencies : List ℕ) : Type 0 where
  pub long : length latencies ≡ 4096
  pub open_yet : (k : ℕ) → k < 4096 → held latencies k ≡ None

-- ---- spans

unfoldable pub within : ℕ → ℕ → ℕ → Bool
within from to k = leb from k && ltb k to

-- the span of the processors that a word names
pub record Spans (who : Who) (span : Span) : Type 0 where
  pub low : span.from ≤ span.to
  pub high : span.to ≤ 64
  pub tells : (p : ℕ) → p < 64 → covers who p ≡ within span.from span.to p

-- n at the places of a span, and the others as they were
unfoldable pub filled : ℕ → ℕ → ℕ → List ℕ → ℕ → ℕ
filled from to n before k = cond (within from to k) n (get_or before k 0)

pub record Filled (from to n : ℕ) (before after : List ℕ) : Type 0 where
  pub long : length after ≡ length before
  pub holds : (k : ℕ) → get_or after k 0 ≡ filled from to n before k

-- the same in each row of a span of senders
unfoldable pub rows_filled : (first last from to n : ℕ) → List ℕ → ℕ → ℕ
rows_filled first last from to n before k = cond (within first last (k / 64) && within from to (k % 64)) n (get_or before k 0)

pub record RowsFilled (first last from to n : ℕ) (before after : List ℕ) : Type 0 where
  pub long : length after ≡ length before
  pub holds : (k : ℕ) → get_or after k 0 ≡ rows_filled first last from to n before k

-- what a rule sets
pub record RuleSet (rule : Rule) (before after : List ℕ) : Type 0 where
  pub long : length after ≡ length before
  pub holds : (k : ℕ) → k < 4096 → get_or after k 0 ≡ cond (covers rule.sender (k / 64) && covers rule.receiver (k % 64)) rule.latency (get_or before k 0)

-- what a good line says, put over what was said before it
unfoldable pub SaidInto : Option Rule → List ℕ → List ℕ → Type 0
SaidInto None before after = after ≡ before
SaidInto (Some rule) before after = RuleSet rule before after

-- ---- lines

-- the first bad line, or else what all of them say
pub record LinesRead (text before : List ℕ) (read : Made) (after : List ℕ) : Type 0 where
  pub tells : read ≡ on_bad (first_bad 1 (lines_of text)) (Ok tt)
  pub long : length after ≡ length before
  pub holds : read ≡ Ok tt → (k : ℕ) → k < 4096 → held after k ≡ said_of (k / 64) (k % 64) (held before k) (lines_of text)

-- ---- the text

pub record TableRead (text : List ℕ) (made : Made) (after : List ℕ) : Type 0 where
  pub answer : made ≡ made_of text
  pub long : length after ≡ 4096
  pub holds : made ≡ Ok tt → after ≡ table_of text
