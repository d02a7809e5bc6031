-- The two ways of a reader, at the form of a time.
use Rattle.paper.specs.Forms.{time_size, time_of}
use Rattle.forms.proofs.Signs.{minus_byte, behind_minus, behind_none}
use Rattle.forms.proofs.Times.{time_range}
use Rattle.form.proofs.read_time.Goals as goal

pub slice_bounds-time_size-count : goal.slice_bounds-time_size-count
slice_bounds-time_size-count c = minus_byte _ c.has_minus.ensures c.if-has_minus.true

pub slice_bounds-time_size-start : goal.slice_bounds-time_size-start
slice_bounds-time_size-start c = minus_byte _ c.has_minus.ensures c.if-has_minus.true

pub with_sign-requires : goal.with_sign-requires
with_sign-requires c = rw c.time_size.ensures (time_range _)

pub with_sign-requires-else-has_minus : goal.with_sign-requires-else-has_minus
with_sign-requires-else-has_minus c = rw c.time_size-else-has_minus.ensures (time_range _)

pub returns-then-has_minus : goal.returns-then-has_minus
unfolding time_of
returns-then-has_minus c = behind_minus time_size _ c.has_minus.ensures c.if-has_minus.true c.time_size.ensures c.with_sign.ensures

pub returns-else-has_minus : goal.returns-else-has_minus
unfolding time_of
returns-else-has_minus c = behind_none time_size _ c.has_minus.ensures c.if-has_minus.false c.time_size-else-has_minus.ensures c.with_sign-else-has_minus.ensures
