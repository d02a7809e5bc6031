-- What the answers say of the line in which the cursor stands.
use Rattle.std.specs.Prelude.{ℕ, ◌≤◌, ◌≡◌, List, Bool, true, false, cond, length, ℤ, pos, eqb, Option, Result, Some, None, Ok}
use Rattle.paper.specs.Line.{first, first_of, count_of, Begun, six, place_of, head_of, values_of, as_wholes, as_others, pairs_of, pairs_for, as_pairs, values_in}
use Rattle.paper.specs.declared.Data.{Data}
use Rattle.paper.specs.declared.Data.TheVariants.{Three, Others}
use Rattle.field.specs.Cursor.{read_as}
use Rattle.field.specs.declared.Form.{Form}
use Rattle.field.specs.declared.Form.TheVariants.{Whole, Time, TimesQuoted, NumbersQuoted}
use Rattle.reading.specs.Places.{line_at, next_line}
use Rattle.reading.specs.Rests.{fields_from, end_from, Ended}
use Rattle.paper.specs.declared.Head.{Head}

-- ---- behind a field: the line has ended, or goes on

-- the byte that is due
unfoldable pub stop_of : Bool → ℕ
stop_of true = 10
stop_of false = 32

-- what a line from a place on comes to, with what follows and where
pub record Told {A : Type 0} (said : A) (more : Option (List ℕ) → A) (s : List ℕ) (at : ℕ) (ended : Bool) (next : ℕ) : Type 0 where
  pub reads : said ≡ more (fields_from s ended next)
  pub same : next_line s at ≡ end_from s ended next
  pub near : next ≤ length s

-- ---- the six fields

-- the first field in a form
unfoldable pub ValueAt : (List ℕ → Option ℤ) → List ℕ → ℕ → Bool → Option (ℤ × ℕ) → Type 0
ValueAt form s at ended (Some (v, next)) = Told (first_of form (Some (line_at s at))) (first v) s at ended next
ValueAt form s at ended None = Unit

unfoldable pub CountAt : List ℕ → ℕ → Option (ℕ × Bool × ℕ) → Type 0
CountAt s at (Some (n, ended, next)) = Told (first_of count_of (Some (line_at s at))) (first (pos n)) s at ended next
CountAt s at None = Unit

unfoldable pub OpensAt : Begun → List ℕ → ℕ → Option (Head × Bool × ℕ) → Type 0
OpensAt said s at (Some (h, ended, next)) = Told said (six h) s at ended next
OpensAt said s at None = Unit

-- the last three of them
unfoldable pub PlaceAt : ℤ → ℤ → ℤ → List ℕ → ℕ → Option (Head × Bool × ℕ) → Type 0
PlaceAt kind event time s at = OpensAt (place_of kind event time (Some (line_at s at))) s at

unfoldable pub BeginsAt : List ℕ → ℕ → Option (Head × Bool × ℕ) → Type 0
BeginsAt s at = OpensAt (head_of (line_at s at)) s at

-- ---- what follows them

-- n values in a form, as the descriptor has them
unfoldable pub in_form : Form → ℕ → Option (List ℕ) → Result Data ℕ
in_form Whole n fields = as_wholes (values_of (read_as Whole) 7 n fields)
in_form Time n fields = as_others (values_of (read_as Time) 7 n fields)
in_form TimesQuoted n fields = as_others (values_of (read_as TimesQuoted) 7 n fields)
in_form NumbersQuoted n fields = as_others (values_of (read_as NumbersQuoted) 7 n fields)

-- what is kept of them: the last three, where they are all and whole numbers
unfoldable pub last_of : Form → ℕ → ℤ → ℤ → ℤ → Data
last_of Whole n a b c = cond (eqb n 3) (Three a b c) Others
last_of Time n a b c = Others
last_of TimesQuoted n a b c = Others
last_of NumbersQuoted n a b c = Others

-- n pairs of a whole number and a field in the form, and those of a statistics record
unfoldable pub in_pairs : Form → ℕ → Option (List ℕ) → Result Data ℕ
in_pairs form n fields = as_pairs (pairs_of (read_as form) 7 n fields)

unfoldable pub pairs_in : ℤ → ℕ → Option (List ℕ) → Result Data ℕ
pairs_in kind n fields = as_pairs (pairs_for kind n fields)

unfoldable pub DataAt : (Option (List ℕ) → Result Data ℕ) → List ℕ → Bool → ℕ → Option (Data × ℕ) → Type 0
DataAt there s ended at (Some (values, next)) = Ended (Ok values) (there (fields_from s ended at)) s ended at next
DataAt there s ended at None = Unit

unfoldable pub HoldsAt : List ℕ → Bool → ℕ → ℤ → ℕ → Option (Data × ℕ) → Type 0
HoldsAt s ended at kind n = DataAt (values_in kind n) s ended at
