-- Bytes among which a byte does not stand, and the bytes that stand in no number and no time.
use Rattle.std.specs.Prelude.{ℕ, ◌≡◌, List, [], ◌∷◌, Bool, not, ◌&&◌, eqb}
use Rattle.paper.specs.Forms.{is_digit}

unfoldable pub Free : ℕ → List ℕ → Type 0
Free b [] = Unit
Free b (x ∷ l) = (x ≡ b → ⊥) × Free b l

-- neither a digit nor the minus nor the point; the space, 32, and the LF, 10, are such by computation
unfoldable pub foreign : ℕ → Bool
foreign b = not (is_digit b) && not (eqb b 45) && not (eqb b 46)
