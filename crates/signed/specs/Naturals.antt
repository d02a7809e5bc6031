-- A signed number as a plain one, where it is not negative.
use Rattle.std.specs.Prelude.{ℕ, cond, ℤ, pos, negsuc, nat_abs, Option, Some, None}
use Rattle.paper.specs.Tests.{up_to}

unfoldable pub size_of : ℤ → Option ℕ
size_of (pos n) = Some n
size_of (negsuc n) = None

unfoldable pub natural_of : ℕ → ℤ → Option ℕ
natural_of most z = cond (up_to most z) (Some (nat_abs z)) None
