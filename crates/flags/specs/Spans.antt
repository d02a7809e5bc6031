-- What the code's plan means on a line: a span is the part of the line that it cuts out (`cut`).
use Rattle.std.specs.Prelude.{ℕ, ◌≡◌, List, Option, Result, Some, None, Ok, Err, IfSome}
use Rattle.named.specs.Parts.{cut, Within}
use Rattle.flags.specs.Plan.{Request, Meant, bad, missing, judge}
use Rattle.named.specs.declared.Span.{Span}
use Rattle.flags.specs.declared.Wishes.{Wishes}
use Rattle.flags.specs.declared.Lack.{Lack}

-- what a span says, where there is one
unfoldable pub value_in : List ℕ → Option Span → Option (List ℕ)
value_in line None = None
value_in line (Some span) = Some (cut line span)

unfoldable pub request_in : List ℕ → Wishes → Request
request_in line wishes =
    record {
      asked = wishes.asked;
      trace = cut line wishes.trace;
      table = cut line wishes.table;
      out = value_in line wishes.out;
    }

unfoldable pub plan_in : List ℕ → Result Wishes Lack → Meant
plan_in line (Err (Lack.Bad word)) = bad (cut line word)
plan_in line (Err (Lack.Missing name)) = missing name
plan_in line (Ok wishes) = judge (request_in line wishes)

-- ---- spans that lie in the line, so that a caller may cut there

pub record AllWithin (line : List ℕ) (wishes : Wishes) : Type 0 where
  pub trace : Within line wishes.trace
  pub table : Within line wishes.table
  pub out : IfSome wishes.out (Within line)

-- ---- the statement of `planned`: what its plan means on the line, all its spans lying there
pub record Planned (line : List ℕ) (meant : Meant) (plan : Result Wishes Lack) : Type 0 where
  pub is : plan_in line plan ≡ meant
  pub word_within : (word : Span) → plan ≡ Err (Lack.Bad word) → Within line word
  pub wishes_within : (wishes : Wishes) → plan ≡ Ok wishes → AllWithin line wishes
