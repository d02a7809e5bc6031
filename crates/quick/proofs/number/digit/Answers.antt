-- A digit that stands alone.
use mathlib.Core.Path.{sym, ◌∙◌}
use native.Mathlib.Omega.{arith}
use Rattle.quick.specs.Words.{FieldAt, Within}
use Rattle.quick.proofs.Runs.{a_digit}
use Rattle.quick.proofs.Stops.{digit_here}
use borrow.Author.Rules.{rules}
use Rattle.quick.proofs.number.digit.Goals as goal

pub returns-then-no_digit : goal.returns-then-no_digit
unfolding FieldAt
returns-then-no_digit c = tt

pub overflow_sub-b : goal.overflow_sub-b
overflow_sub-b c = (a_digit _ (sym c.no_digit.ensures ∙ c.if-no_digit.false)).0

pub with_sign-requires : goal.with_sign-requires
unfolding Within
with_sign-requires c = omega (arith, a_digit _ (sym c.no_digit.ensures ∙ c.if-no_digit.false))

pub returns : goal.returns
returns c = rw c.with_sign.ensures (digit_here _ _ _ _ (search rules) c.from-b.ensures (sym c.no_digit.ensures ∙ c.if-no_digit.false) (search rules))
