-- The rest of a line from a cursor on, by whether the line has ended before it: the fields that follow, and where the next line starts.
use Rattle.std.specs.Prelude.{ℕ, ◌≤◌, ◌≡◌, List, Bool, true, false, length, Option, Some, None}
use Rattle.reading.specs.Places.{line_at, next_line}

-- the fields that follow: none, or those from the cursor on
unfoldable pub fields_from : List ℕ → Bool → ℕ → Option (List ℕ)
fields_from s true at = None
fields_from s false at = Some (line_at s at)

-- where the next line starts: at the cursor, or where the cursor's line ends
unfoldable pub end_from : List ℕ → Bool → ℕ → ℕ
end_from s true at = at
end_from s false at = next_line s at

-- what is told of the fields from a cursor on, and where the next line starts
pub record Ended {A : Type 0} (said there : A) (s : List ℕ) (ended : Bool) (at next : ℕ) : Type 0 where
  pub is : said ≡ there
  pub ends : end_from s ended at ≡ next
  pub near : at ≤ length s → next ≤ length s
