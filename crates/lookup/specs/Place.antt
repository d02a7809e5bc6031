-- The place of the listed record that stands on a line of the file, lines counted from 1 and places from 0.
use Rattle.std.specs.Prelude.{ℕ, suc, cond, List, [], ◌∷◌, length, eqb, Option, Some, None}
use Rattle.paper.specs.declared.Entry.{Entry}
use Rattle.numeral.specs.Numeral.{natural_in}

-- the place of the first record on a line, and the number of records where there is none: nothing stands on line 0, on a line that was
-- passed over and on one past the end
unfoldable pub place_from : ℕ → List Entry → ℕ
place_from line [] = 0
place_from line (e ∷ es) = cond (eqb e.line line) 0 (suc (place_from line es))

unfoldable pub place_by : Option ℕ → List Entry → ℕ
place_by (Some line) es = place_from line es
place_by None es = length es

-- on the line that a word names, if it is a number and not a negative one
unfoldable pub place_on : List ℕ → List Entry → ℕ
place_on word es = place_by (natural_in word) es
