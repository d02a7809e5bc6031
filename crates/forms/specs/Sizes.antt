-- Words of the functions that read and write: what they answer about a size, the part that both forms share, and a sign.
use Rattle.std.specs.Prelude.{ℕ, ◌≤◌, ◌≡◌, List, [], ◌∷◌, Bool, true, false, cond, Option, Some, None}
use Rattle.paper.specs.Forms.{digits_from, unled}

-- a number, where there is one, is not above the most
unfoldable pub AtMost : ℕ → Option ℕ → Type 0
AtMost most o = (n : ℕ) → o ≡ Some n → n ≤ most

-- digits without a leading zero
unfoldable pub whole_part : List ℕ → Option ℕ
whole_part s = cond (unled s) (digits_from 0 s) None

-- a sign, written
unfoldable pub sign_shown : Bool → List ℕ
sign_shown true = 45 ∷ []
sign_shown false = []
