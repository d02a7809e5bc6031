use mathlib.Core.Path.{ap, sym, ◌∙◌}
use native.Mathlib.Omega.{arith}
use Rattle.paper.specs.Forms.{at_most}
use Rattle.form.proofs.Digits.{no_digit, digit, digit_small}
use Rattle.numeral.proofs.Sizes.{none_of, too_large, all_read, in_all, above_all}
use Rattle.numeral.proofs.read_digits.Goals as goal
use Rattle.numeral.proofs.read_digits.Goals.{then-not-is_ascii_digit-via-then-not-is_ascii_digit, then-not-is_ascii_digit-via-else-not-is_ascii_digit+then-value-gt922337203685477580}

pub returns-then-not-is_ascii_digit : goal.returns-then-not-is_ascii_digit
returns-then-not-is_ascii_digit c = let l = c.loop-b in
    elim c.then-not-is_ascii_digit.branch [
      | then-not-is_ascii_digit-via-then-not-is_ascii_digit w ↦
          none_of _ (l.invariant.1 ∙ no_digit _ _ _ c.loop-b-test.true c.is_ascii_digit.ensures.value w.if-not-is_ascii_digit.true)
      | then-not-is_ascii_digit-via-else-not-is_ascii_digit+then-value-gt922337203685477580 w ↦
          sym (ap (at_most _) l.invariant.1 ∙ too_large _ l.b-index l.value _ c.loop-b-test.true w.if-value-gt922337203685477580.true c.requires)
    ]

pub loop-b-preserved : goal.loop-b-preserved
loop-b-preserved c = let l = c.loop-b in
    let told = c.is_ascii_digit.ensures.value in
    let is = c.if-not-is_ascii_digit.false in (
      omega (arith, digit_small _ _ l.value c.loop-b-test.true told is, c.from.ensures),
      rw c.from.ensures (l.invariant.1 ∙ digit _ _ _ c.loop-b-test.true told is),
    )

pub returns-then-most-value : goal.returns-then-most-value
returns-then-most-value c = let l = c.loop-b in
    above_all _ _ c.if-most-value.true ∙ ap (at_most _) (all_read _ _ _ l.invariant.1 c.loop-b-test.false)

pub returns-else-most-value : goal.returns-else-most-value
returns-else-most-value c = let l = c.loop-b in
    in_all _ _ c.if-most-value.false ∙ ap (at_most _) (all_read _ _ _ l.invariant.1 c.loop-b-test.false)
