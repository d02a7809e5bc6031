-- Document 01: "The table file is 16,384 bytes, four for each latency, low byte first, any other length being refusal 2."
use Rattle.std.specs.Prelude.{ℕ, ◌+◌, ◌*◌, ◌/◌, ◌%◌, ◌≡◌, List, [], ◌∷◌, Bool, cond, length, get_or, eqb}

abbrev pub low_first : ℕ → ℕ → ℕ → ℕ → ℕ
low_first a b c d = a + 256 * b + 65536 * c + 16777216 * d

-- the latencies in the file's order; of a file that ends within one, that one is left out
unfoldable pub latencies_of : List ℕ → List ℕ
latencies_of [] = []
latencies_of (a ∷ []) = []
latencies_of (a ∷ b ∷ []) = []
latencies_of (a ∷ b ∷ c ∷ []) = []
latencies_of (a ∷ b ∷ c ∷ d ∷ rest) = low_first a b c d ∷ latencies_of rest

-- the latency whose four bytes start at a place
abbrev pub latency_at : List ℕ → ℕ → ℕ
latency_at s at = low_first (get_or s at 0) (get_or s (at + 1) 0) (get_or s (at + 2) 0) (get_or s (at + 3) 0)

-- ---- a table's bytes

-- "four for each latency, low byte first"
abbrev pub four_bytes : ℕ → List ℕ → List ℕ
four_bytes n rest = n % 256 ∷ n / 256 % 256 ∷ n / 65536 % 256 ∷ n / 16777216 % 256 ∷ rest

unfoldable pub bytes_for : List ℕ → List ℕ
bytes_for [] = []
bytes_for (latency ∷ rest) = four_bytes latency (bytes_for rest)

-- ---- the statement of `decode`

-- whether a file is as long as so many latencies ask
abbrev pub fitting : List ℕ → List ℕ → Bool
fitting file latencies = eqb (length file) (4 * length latencies)

pub record Decoded (file before : List ℕ) (answer : Bool) (after : List ℕ) : Type 0 where
  pub says : answer ≡ fitting file before
  pub holds : after ≡ cond (fitting file before) (latencies_of file) before

-- ---- the statement of `encode`

pub record Encoded (latencies before : List ℕ) (answer : Bool) (after : List ℕ) : Type 0 where
  pub says : answer ≡ fitting before latencies
  pub holds : after ≡ cond (fitting before latencies) (bytes_for latencies) before
