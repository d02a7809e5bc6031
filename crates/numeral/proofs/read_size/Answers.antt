-- A law of `whole_part` for each of the four ways.
use mathlib.Core.Path.{sym, ap, ◌∙◌}
use borrow.Author.Tests.{eqb-true, eqb-false}
use Rattle.paper.specs.Forms.{at_most}
use Rattle.forms.proofs.Wholes.{part_empty, part_led, part_zero, part_zeros}
use Rattle.numeral.proofs.Sizes.{none_of, zero_of}
use Rattle.numeral.proofs.read_size.Goals as goal

pub returns-then-is_empty : goal.returns-then-is_empty
returns-then-is_empty c = none_of _ (part_empty _ (eqb-true _ 0 (sym c.is_empty.ensures ∙ c.if-is_empty.true)))

pub returns-then-s-ne48 : goal.returns-then-s-ne48
returns-then-s-ne48 c =
    let some = eqb-false _ 0 (sym c.is_empty.ensures ∙ c.if-is_empty.false) in
    c.read_digits.ensures ∙ ap (at_most _) (sym (part_led _ some c.if-s-ne48.true))

pub returns-then-s-eq1 : goal.returns-then-s-eq1
returns-then-s-eq1 c = zero_of _ (part_zero _ c.if-s-ne48.false c.if-s-eq1.true)

pub returns-else-s-eq1 : goal.returns-else-s-eq1
returns-else-s-eq1 c =
    none_of _ (part_zeros _ (eqb-false _ 0 (sym c.is_empty.ensures ∙ c.if-is_empty.false)) c.if-s-ne48.false c.if-s-eq1.false)
