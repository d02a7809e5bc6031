-- Where a byte stands first.
use Rattle.std.specs.Prelude.{ℕ, suc, List, [], ◌∷◌, Bool, true, false, eqb}

-- one place further, unless the byte stands here
abbrev pub index_after : Bool → ℕ → ℕ
index_after true n = 0
index_after false n = suc n

-- the place of the first b, or how many bytes there are where there is none
unfoldable pub index_of : ℕ → List ℕ → ℕ
index_of b [] = 0
index_of b (x ∷ xs) = index_after (eqb x b) (index_of b xs)
