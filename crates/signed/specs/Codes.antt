-- A signed number as a plain one, and back: 0, -1, 1, -2, 2, .. are 0, 1, 2, 3, 4, ..
use Rattle.std.specs.Prelude.{ℕ, ◌+◌, ◌*◌, ◌/◌, ◌%◌, cond, ℤ, pos, negsuc, eqb}

unfoldable pub code_of : ℤ → ℕ
code_of (pos n) = 2 * n
code_of (negsuc n) = 2 * n + 1

unfoldable pub decoded : ℕ → ℤ
decoded c = cond (eqb (c % 2) 0) (pos (c / 2)) (negsuc (c / 2))
