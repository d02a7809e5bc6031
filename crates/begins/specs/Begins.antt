-- What is said of a field of a line: it is there and begins at a place, or it is missing.
use Rattle.std.specs.Prelude.{ℕ, ◌+◌, ◌≤◌, ◌≡◌, true, false, List, length, Option, Some, None}
use Rattle.paper.specs.Line.{fields_above}
use Rattle.paper.specs.Columns.{past_end, column_of}

pub record There (l : List ℕ) (k at : ℕ) : Type 0 where
  pub is : fields_above k l ≡ true
  pub column : column_of k l ≡ at + 1
  pub inside : at ≤ length l

pub record NotThere (l : List ℕ) (k : ℕ) : Type 0 where
  pub is : fields_above k l ≡ false
  pub column : column_of k l ≡ past_end l

unfoldable pub Begins : List ℕ → ℕ → Option ℕ → Type 0
Begins l k (Some at) = There l k at
Begins l k None = NotThere l k
