-- The words of a line of arguments: a word ends at the separator or at the end of the line, and an empty rest is no word. A byte is its
-- number.
use Rattle.std.specs.Prelude.{ℕ, suc, cond, List, [], ◌∷◌, take, drop, eqb}
use Rattle.octets.specs.Octets.{index_of}

-- the words with one byte more in front of the first
unfoldable pub before : ℕ → List (List ℕ) → List (List ℕ)
before b [] = (b ∷ []) ∷ []
before b (word ∷ words) = (b ∷ word) ∷ words

unfoldable pub words_of : ℕ → List ℕ → List (List ℕ)
words_of separator [] = []
words_of separator (b ∷ line) = let words = words_of separator line in cond (eqb b separator) ([] ∷ words) (before b words)

-- the bytes before the first separator, all where there is none, and the bytes behind it
unfoldable pub up_to : ℕ → List ℕ → List ℕ
up_to separator line = take (index_of separator line) line

unfoldable pub behind : ℕ → List ℕ → List ℕ
behind separator line = drop (suc (index_of separator line)) line
