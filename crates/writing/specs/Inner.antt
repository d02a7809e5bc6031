-- What the inner functions tell each other.
use Rattle.std.specs.Prelude.{ℕ, ◌+◌, ◌≤◌, ◌<◌, ◌≡◌, List, ◌∷◌, length, drop, get_or, ℤ, pos, Option, Some, None}
use Rattle.std.proofs.lemmas.List.Edits.{sets}
use Rattle.writing.specs.Patched.{Move, moves_from}

-- ---- the moved records

abbrev pub moves_at : List ℕ → List ℤ → ℕ → List Move
moves_at store times k = moves_from store k (drop k times)

-- no record left at k, or one that moved
pub record Stops (store : List ℕ) (times : List ℤ) (k : ℕ) : Type 0 where
  pub high : k ≤ length times
  pub moved : k < length times → moves_at store times k ≡ record { place = k; time = get_or times k (pos 0) } ∷ moves_at store times (k + 1)

-- r is the next such place from k on
pub record Next (store : List ℕ) (times : List ℤ) (k r : ℕ) : Type 0 where
  pub low : k ≤ r
  pub stops : Stops store times r
  pub skips : moves_at store times k ≡ moves_at store times r

-- ---- lengths

-- by how much the written trace is longer and shorter than s
pub data Changed (s : List ℕ) (bytes : Option (List ℕ)) : Option (ℕ × ℕ) → Type 0 where
  changed : {b : List ℕ} {gained lost : ℕ} → bytes ≡ Some b → length b + lost ≡ length s + gained → lost ≤ length s → Changed s bytes (Some (gained, lost))
  unfit : bytes ≡ None → Changed s bytes None

-- ---- the room

-- bytes that it holds
pub record Held (bytes : Option (List ℕ)) (most : ℕ) : Type 0 where
  pub word : List ℕ
  pub is : bytes ≡ Some word
  pub fits : length word ≤ most

-- a word put at `at`, and the place behind it
pub record Stored (room : List ℕ) (at : ℕ) (word : List ℕ) (r : ℕ) (after : List ℕ) : Type 0 where
  pub ends : r ≡ at + length word
  pub holds : after ≡ sets room at word
