-- The two ways of a sign.
use Rattle.forms.proofs.Signs.{minus_byte}
use Rattle.numeral.proofs.Sizes.{at_most_lem, behind_minus, behind_none}
use Rattle.numeral.proofs.read_number.Goals as goal

pub slice_bounds-read_size-count : goal.slice_bounds-read_size-count
slice_bounds-read_size-count c = minus_byte _ c.has_minus.ensures c.if-has_minus.true

pub slice_bounds-read_size-start : goal.slice_bounds-read_size-start
slice_bounds-read_size-start c = minus_byte _ c.has_minus.ensures c.if-has_minus.true

pub with_minus-requires : goal.with_minus-requires
with_minus-requires c = rw c.read_size.ensures (at_most_lem _ _)

pub without_minus-requires : goal.without_minus-requires
without_minus-requires c = rw c.read_size-else-has_minus.ensures (at_most_lem _ _)

pub returns-then-has_minus : goal.returns-then-has_minus
returns-then-has_minus c = behind_minus _ c.has_minus.ensures c.if-has_minus.true c.read_size.ensures c.with_minus.ensures

pub returns-else-has_minus : goal.returns-else-has_minus
returns-else-has_minus c = behind_none _ c.has_minus.ensures c.if-has_minus.false c.read_size-else-has_minus.ensures c.without_minus.ensures
