-- The words of a line of latencies. They stand apart by any number of blanks, and blanks may stand before the first and behind the
-- last: a text is written by hand, unlike a trace. A byte is its number.
use Rattle.std.specs.Prelude.{ℕ, Bool, cond, ◌||◌, List, [], ◌∷◌, eqb}

-- a space, a tab, or the carriage return of a line that ends with two bytes
unfoldable pub is_blank : ℕ → Bool
is_blank b = eqb b 32 || (eqb b 9 || eqb b 13)

-- "`#` for a comment to the line's end"
unfoldable pub uncommented : List ℕ → List ℕ
uncommented [] = []
uncommented (b ∷ l) = let rest = uncommented l in cond (eqb b 35) [] (b ∷ rest)

-- from the first byte on that is no blank
unfoldable pub trimmed : List ℕ → List ℕ
trimmed [] = []
trimmed (b ∷ l) = let rest = trimmed l in cond (is_blank b) rest (b ∷ l)

-- the bytes up to the first blank
unfoldable pub word : List ℕ → List ℕ
word [] = []
word (b ∷ l) = let rest = word l in cond (is_blank b) [] (b ∷ rest)

-- the bytes from the first blank on
unfoldable pub behind : List ℕ → List ℕ
behind [] = []
behind (b ∷ l) = let rest = behind l in cond (is_blank b) (b ∷ l) rest

-- from the next word on
unfoldable pub next : List ℕ → List ℕ
next l = trimmed (behind l)
