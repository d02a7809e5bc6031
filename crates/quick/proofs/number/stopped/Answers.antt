-- The byte is asked, where there is a number.
use native.Mathlib.Omega.{arith}
use Rattle.quick.specs.Words.{stopped_by}
use Rattle.quick.proofs.Stops.{inside_of, stop_there, stop_not}
use borrow.Author.Rules.{rules}
use Rattle.quick.proofs.number.stopped.Goals as goal

pub returns-in_err-v : goal.returns-in_err-v
unfolding stopped_by
returns-in_err-v c = rw (c.from_residual.ensures, c.in_err-v.was)

pub bounds-s-end : goal.bounds-s-end
bounds-s-end c = inside_of _ _ c.requires _ _ c.in_ok-v.was

pub overflow_add-result : goal.overflow_add-result
overflow_add-result c = omega (arith, inside_of _ _ c.requires _ _ c.in_ok-v.was)

pub returns-then-s-end : goal.returns-then-s-end
returns-then-s-end c = stop_there _ _ _ _ c.in_ok-v.was (search rules) c.if-s-end.true

pub returns-else-s-end : goal.returns-else-s-end
returns-else-s-end c = stop_not _ _ _ _ c.in_ok-v.was c.if-s-end.false
