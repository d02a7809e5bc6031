use Prim.Native.Nat.{◌+◌}
use mathlib.Core.Path.{ap, sym, ◌∙◌}
use native.Mathlib.Nat.{add_assoc}
use native.Mathlib.Omega.{arith}
use lib.ListN.{drop_of_length-le}
use Rattle.paper.specs.Forms.{digits_from}
use Rattle.forms.proofs.Runs.{cap, grows}
use Rattle.form.proofs.Digits.{no_digit, digit, digit_small}
use Rattle.form.proofs.read.read_digits.Goals as goal

pub returns-then-not-is_ascii_digit : goal.returns-then-not-is_ascii_digit
returns-then-not-is_ascii_digit c =
    sym (c.loop-b.invariant.1 ∙ no_digit _ _ _ c.loop-b-test.true c.is_ascii_digit.ensures.value c.if-not-is_ascii_digit.true)

pub overflow_mul-value : goal.overflow_mul-value
overflow_mul-value c = let l = c.loop-b in omega (arith, cap (9 + l.b-index) 17 (omega arith))

pub overflow_add-value : goal.overflow_add-value
overflow_add-value c = let l = c.loop-b in omega (arith, cap (9 + l.b-index) 17 (omega arith))

pub loop-b-preserved : goal.loop-b-preserved
loop-b-preserved c = let l = c.loop-b in
    let told = c.is_ascii_digit.ensures.value in
    let is = c.if-not-is_ascii_digit.false in (
      rw (← add_assoc, c.from.ensures) (grows (9 + l.b-index) l.value _ l.invariant.0 (digit_small _ _ l.value c.loop-b-test.true told is)),
      rw c.from.ensures (l.invariant.1 ∙ digit _ _ _ c.loop-b-test.true told is),
    )

pub returns : goal.returns
unfolding digits_from
returns c = let l = c.loop-b in
    sym (l.invariant.1 ∙ ap (digits_from l.value) (drop_of_length-le _ c.loop-b-test.false))
