-- A file as it could be read.
use Rattle.std.specs.Prelude.{ℕ, Bool, true, false, List, take, Option, Some, None, Result, Ok, Err}

-- its bytes, or none where it can't be read
unfoldable pub file_of : (read : Bool) → List ℕ → Option (List ℕ)
file_of true bytes = Some bytes
file_of false bytes = None

-- by how many of its bytes a buffer begins with, or how many came before it could be read no further
unfoldable pub held_in : Result ℕ ℕ → (buffer : List ℕ) → Option (List ℕ)
held_in (Ok n) buffer = file_of true (take n buffer)
held_in (Err n) buffer = file_of false (take n buffer)
