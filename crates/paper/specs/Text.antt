-- A text as its bytes, for texts of plain characters, and when two are the same.
use Rattle.std.specs.Prelude.{ℕ, Bool, true, false, ◌&&◌, List, eqb}
use Prim.Native.Char.{code}
use Prim.Native.String.{String, [], ◌∷◌}

unfoldable pub bytes_of : String → List ℕ
bytes_of [] = List.[]
bytes_of (c ∷ s) = List.◌∷◌ (code c) (bytes_of s)

-- "compared byte for byte"
unfoldable pub is_same : List ℕ → List ℕ → Bool
is_same List.[] List.[] = true
is_same List.[] (List.◌∷◌ b other) = false
is_same (List.◌∷◌ a word) List.[] = false
is_same (List.◌∷◌ a word) (List.◌∷◌ b other) = eqb a b && is_same word other
