-- The two ways of a reader, at the form of a whole number.
use Rattle.paper.specs.Forms.{whole_size, whole_of}
use Rattle.forms.proofs.Signs.{minus_byte, behind_minus, behind_none}
use Rattle.forms.proofs.Wholes.{whole_small}
use Rattle.form.proofs.read_whole.Goals as goal

pub slice_bounds-whole_size-count : goal.slice_bounds-whole_size-count
slice_bounds-whole_size-count c = minus_byte _ c.has_minus.ensures c.if-has_minus.true

pub slice_bounds-whole_size-start : goal.slice_bounds-whole_size-start
slice_bounds-whole_size-start c = minus_byte _ c.has_minus.ensures c.if-has_minus.true

pub with_sign-requires : goal.with_sign-requires
with_sign-requires c = rw c.whole_size.ensures (whole_small _)

pub with_sign-requires-else-has_minus : goal.with_sign-requires-else-has_minus
with_sign-requires-else-has_minus c = rw c.whole_size-else-has_minus.ensures (whole_small _)

pub returns-then-has_minus : goal.returns-then-has_minus
unfolding whole_of
returns-then-has_minus c = behind_minus whole_size _ c.has_minus.ensures c.if-has_minus.true c.whole_size.ensures c.with_sign.ensures

pub returns-else-has_minus : goal.returns-else-has_minus
unfolding whole_of
returns-else-has_minus c = behind_none whole_size _ c.has_minus.ensures c.if-has_minus.false c.whole_size-else-has_minus.ensures c.with_sign-else-has_minus.ensures
