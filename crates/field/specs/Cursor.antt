-- What a cursor in a line means, and what the code's answers mean at it.
use Rattle.std.specs.Prelude.{ℕ, ◌+◌, ◌≤◌, ◌≡◌, List, cond, length, drop, pos, ltb, Option, Some, None, ℤ}
use Rattle.paper.specs.Forms.{whole_of, time_of, times_quoted, numbers_quoted}
use Rattle.paper.specs.Line.{First, nothing, first}
use Rattle.field.specs.declared.Form.{Form}
use Rattle.field.specs.declared.Form.TheVariants.{Whole, Time, TimesQuoted, NumbersQuoted}

unfoldable pub read_as : Form → List ℕ → Option ℤ
read_as Whole = whole_of
read_as Time = time_of
read_as TimesQuoted = times_quoted
read_as NumbersQuoted = numbers_quoted

-- the fields from the cursor on; none where it is past the end
unfoldable pub rest_at : List ℕ → ℕ → Option (List ℕ)
rest_at l at = cond (ltb (length l) at) None (Some (drop at l))

-- what an answer says of the line, and where its cursor stands

unfoldable pub got_of : List ℕ → Option (ℤ × ℕ) → First
got_of l None = nothing
got_of l (Some (v, next)) = first v (rest_at l next)

abbrev pub got_next : Option (ℤ × ℕ) → ℕ
got_next None = 0
got_next (Some (v, next)) = next

unfoldable pub counted_of : List ℕ → Option (ℕ × ℕ) → First
counted_of l None = nothing
counted_of l (Some (n, next)) = first (pos n) (rest_at l next)

abbrev pub counted_next : Option (ℕ × ℕ) → ℕ
counted_next None = 0
counted_next (Some (n, next)) = next

-- the answer says what there is; a cursor that stands past the end is one past it
pub record Tells {A : Type 0} (l : List ℕ) (said there : A) (cursor : ℕ) : Type 0 where
  pub is : said ≡ there
  pub near : cursor ≤ length l + 1
