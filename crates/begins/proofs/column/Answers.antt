use native.Mathlib.Omega.{arith}
use Rattle.begins.proofs.Outcome.{begins_inside, begins_column}
use Rattle.begins.proofs.column.Goals as goal

pub overflow_add-result : goal.overflow_add-result
overflow_add-result c = omega (arith, c.unwrap_or.ensures, begins_inside _ _ _ c.begin_of.ensures)

pub returns : goal.returns
returns c = rw c.unwrap_or.ensures (begins_column _ _ _ c.begin_of.ensures)
