use Prim.Native.Nat.{◌+◌}
use mathlib.Core.Path.{◌≡◌, sym, ◌∙◌}
use native.Mathlib.Omega.{arith}
use borrow.Author.Rules.{rules}
use Rattle.quick.specs.Words.{SizeAt}
use Rattle.quick.proofs.Runs.{a_digit, begins, zero_alone, done, small, goes}
use Rattle.quick.proofs.digits.run.Goals as goal

pub returns-then-no_digit : goal.returns-then-no_digit
unfolding SizeAt
returns-then-no_digit c = search rules

pub returns-then-first-eq48 : goal.returns-then-first-eq48
unfolding SizeAt
returns-then-first-eq48 c = zero_alone _ _ _ (search rules) c.from-first.ensures c.if-first-eq48.true

pub overflow_sub-value : goal.overflow_sub-value
overflow_sub-value c = (a_digit _ (sym c.no_digit.ensures ∙ c.if-no_digit.false)).0

pub loop-i-init : goal.loop-i-init
loop-i-init c = begins _ _ _ (search rules) c.from-first.ensures (sym c.no_digit.ensures ∙ c.if-no_digit.false) c.if-first-eq48.false

pub returns-then-no_digit-2 : goal.returns-then-no_digit-2
unfolding SizeAt
returns-then-no_digit-2 c = done _ _ _ _ c.loop-i.invariant

pub overflow_mul-value : goal.overflow_mul-value
overflow_mul-value c = omega (arith, small _ _ _ _ c.loop-i.invariant c.loop-i-test.true)

pub overflow_sub-value-in-loop-i : goal.overflow_sub-value-in-loop-i
overflow_sub-value-in-loop-i c = (a_digit _ (sym c.no_digit-in-loop-i.ensures ∙ c.if-no_digit-2.false)).0

pub overflow_add-value : goal.overflow_add-value
overflow_add-value c = omega (arith, small _ _ _ _ c.loop-i.invariant c.loop-i-test.true, a_digit _ (sym c.no_digit-in-loop-i.ensures ∙ c.if-no_digit-2.false))

pub loop-i-preserved : goal.loop-i-preserved
loop-i-preserved c = goes _ _ _ _ c.loop-i.invariant _ (search rules) c.loop-i-test.true c.from-b.ensures (sym c.no_digit-in-loop-i.ensures ∙ c.if-no_digit-2.false)

pub returns : goal.returns
unfolding SizeAt
returns c =
    let end : c.args.at + 9 ≡ c.loop-i.i = omega (arith, c.loop-i-test.false, c.loop-i.auto) in
    rw end (done _ _ _ _ c.loop-i.invariant)
