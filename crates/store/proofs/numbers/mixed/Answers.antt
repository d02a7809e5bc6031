-- the three parts have room beside each other.
use borrow.Author.Rules.{rules}
use native.Mathlib.Omega.{arith}
use Rattle.store.proofs.Made.{role_low, values_low}
use Rattle.store.proofs.numbers.mixed.Goals as goal

pub overflow_mul-result : goal.overflow_mul-result
overflow_mul-result c = record { fits = omega (arith, role_low c.args.role, values_low c.args.values) }

pub overflow_add-result : goal.overflow_add-result
overflow_add-result c = record { fits = omega (arith, role_low c.args.role, values_low c.args.values) }

pub overflow_mul-result-2 : goal.overflow_mul-result-2
overflow_mul-result-2 c = record { fits = omega (arith, role_low c.args.role, values_low c.args.values) }

pub overflow_add-result-2 : goal.overflow_add-result-2
overflow_add-result-2 c = record { fits = omega (arith, role_low c.args.role, values_low c.args.values) }
