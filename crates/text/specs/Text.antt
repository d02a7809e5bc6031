-- A text of latencies: lines, of which the last may lack its LF, "later lines over earlier ones; a pair that no line covers is an error,
-- not a 0". The latency from sender s to receiver r is number 64 s + r of the table.
use Rattle.std.specs.Prelude.{ℕ, zero, suc, ◌+◌, ◌/◌, ◌%◌, ◌≡◌, List, [], ◌∷◌, Option, Some, None, Result, Ok, Err}
use Rattle.paper.specs.Reading.{Lines, done, unended, ended, lines_of}
use Rattle.rule.specs.Rule.{Meaning, meaning_of, over}
use Rattle.table.specs.Table.{bytes_for}
use Rattle.text.specs.declared.Unmade.{Unmade}
use Rattle.text.specs.declared.Unmade.TheVariants.{BadLine, Open}

-- ---- the lines

-- the line itself where it is bad, or else the first bad one below it
unfoldable pub bad_or : ℕ → Meaning → Option ℕ → Option ℕ
bad_or n (Err bad) below = Some n
bad_or n (Ok said) below = below

-- the first bad line, the first of these lines being number n
unfoldable pub first_bad : ℕ → Lines → Option ℕ
first_bad n done = None
first_bad n (unended l) = bad_or n (meaning_of l) None
first_bad n (ended l more) = let below = first_bad (n + 1) more in bad_or n (meaning_of l) below

-- what the lines say of the latency from s to r, where `old` was said before them
unfoldable pub said_of : ℕ → ℕ → Option ℕ → Lines → Option ℕ
said_of s r old done = old
said_of s r old (unended l) = over s r old (meaning_of l)
said_of s r old (ended l more) = said_of s r (over s r old (meaning_of l)) more

-- ---- the table

-- what is said at a place of the table
unfoldable pub entry : Lines → ℕ → Option ℕ
entry lines k = said_of (k / 64) (k % 64) None lines

unfoldable pub open_or : ℕ → Option ℕ → Option ℕ → Option ℕ
open_or k None later = Some k
open_or k (Some latency) later = later

-- the first of n places from k on of which nothing is said
unfoldable pub first_open : (ℕ → Option ℕ) → ℕ → ℕ → Option ℕ
first_open f zero k = None
first_open f (suc n) k = let later = first_open f n (k + 1) in open_or k (f k) later

unfoldable pub value_of : Option ℕ → ℕ
value_of None = 0
value_of (Some latency) = latency

-- n places from k on, where something is said of each of them
unfoldable pub places : (ℕ → Option ℕ) → ℕ → ℕ → List ℕ
places f zero k = []
places f (suc n) k = value_of (f k) ∷ places f n (k + 1)

unfoldable pub table_of : List ℕ → List ℕ
table_of text = places (entry (lines_of text)) 4096 0

-- ---- the answer

-- whether the table is whole
abbrev pub Made : Type 0
Made = Result Unit Unmade

unfoldable pub on_open : Option ℕ → Made
on_open None = Ok tt
on_open (Some k) = Err (Open (k / 64) (k % 64))

unfoldable pub on_bad : Option ℕ → Made → Made
on_bad None made = made
on_bad (Some n) made = Err (BadLine n)

-- the first bad line, or else the first pair of which nothing is said, or else a whole table
unfoldable pub made_of : List ℕ → Made
made_of text = on_bad (first_bad 1 (lines_of text)) (on_open (first_open (entry (lines_of text)) 4096 0))

-- ---- the statement of `make`

unfoldable pub only_whole : Made → List ℕ → List ℕ → List ℕ
only_whole (Ok whole) file before = file
only_whole (Err unmade) file before = before

-- the answer, and the table file's bytes in the room where the table is whole; else the room is as it was
pub record MadeInto (text before : List ℕ) (made : Made) (after : List ℕ) : Type 0 where
  pub answer : made ≡ made_of text
  pub holds : after ≡ only_whole made (bytes_for (table_of text)) before
