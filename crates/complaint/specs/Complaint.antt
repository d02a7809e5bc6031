-- The line that names what is bad or missing. Whatever the caller typed, it is one line: an argument cannot fake a report.
use Rattle.std.specs.Prelude.{ℕ, cond, ◌&&◌, List, [], ◌∷◌, ◌++◌, take, leb, Result}
use Rattle.io.specs.Counts.{IsPrefixLen}
use Rattle.paper.specs.Text.{bytes_of}
use Rattle.report.specs.Put.{Put}
use Rattle.named.specs.Values.{written}
use Rattle.flags.specs.Plan.{Meant, bad, missing, judge}
use Rattle.flags.specs.Spans.{plan_in}
use Rattle.flags.specs.declared.Lack.{Lack}
use Rattle.flags.specs.declared.Wishes.{Wishes}

-- a byte outside 33 to 126 is shown as `?`, which is 63
unfoldable pub visible : ℕ → ℕ
visible b = cond (leb 33 b && leb b 126) b 63

unfoldable pub all_visible : List ℕ → List ℕ
all_visible [] = []
all_visible (b ∷ word) = visible b ∷ all_visible word

-- a longer word is cut to its first 200 bytes
unfoldable pub word_shown : List ℕ → List ℕ
word_shown word = all_visible (take 200 word)

unfoldable pub line_of : List ℕ → List ℕ → List ℕ
line_of head text = head ++ (text ++ bytes_of "\n")

unfoldable pub complaint_of : Meant → List ℕ
complaint_of (bad word) = line_of (bytes_of "bad argument ") (word_shown word)
complaint_of (missing name) = line_of (bytes_of "missing argument ") (written name)
complaint_of (judge request) = []

-- ---- the statement of `complaint`: the line at the room's start, the rest as it was. That its length counts within the room follows
-- from this, and is said for those who lend that part.
pub record Complained (line : List ℕ) (plan : Result Wishes Lack) (room : List ℕ) (length : ℕ) (after : List ℕ) : Type 0 where
  pub put : Put room 0 (complaint_of (plan_in line plan)) length after
  pub counts : IsPrefixLen length after
