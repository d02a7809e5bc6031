-- A law of `whole_part` for each of the four ways.
use mathlib.Core.Path.{sym, ◌∙◌}
use borrow.Author.Tests.{eqb-true, eqb-false}
use Rattle.forms.proofs.Wholes.{part_empty, part_led, part_zero, part_zeros}
use Rattle.form.proofs.read.whole_part.Goals as goal

pub returns-then-is_empty : goal.returns-then-is_empty
returns-then-is_empty c = sym (part_empty _ (eqb-true _ 0 (sym c.is_empty.ensures ∙ c.if-is_empty.true)))

pub returns-then-s-ne48 : goal.returns-then-s-ne48
returns-then-s-ne48 c =
    c.read_digits.ensures ∙ sym (part_led _ (eqb-false _ 0 (sym c.is_empty.ensures ∙ c.if-is_empty.false)) c.if-s-ne48.true)

pub returns-then-s-eq1 : goal.returns-then-s-eq1
returns-then-s-eq1 c = sym (part_zero _ c.if-s-ne48.false c.if-s-eq1.true)

pub returns-else-s-eq1 : goal.returns-else-s-eq1
returns-else-s-eq1 c =
    sym (part_zeros _ (eqb-false _ 0 (sym c.is_empty.ensures ∙ c.if-is_empty.false)) c.if-s-ne48.false c.if-s-eq1.false)
