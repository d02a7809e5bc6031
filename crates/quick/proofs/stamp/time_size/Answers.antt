-- Seconds, and behind them the point and six digits.
use native.Mathlib.Omega.{arith}
use Rattle.quick.specs.Words.{SizeAt}
use Rattle.quick.proofs.Sizes.{sized, word_end, part_below, micros, time_here}
use Rattle.forms.specs.Sizes.{whole_part}
use Rattle.quick.proofs.stamp.time_size.Goals as goal

pub returns-in_err-seconds : goal.returns-in_err-seconds
unfolding SizeAt
returns-in_err-seconds c = rw c.from_residual.ensures tt

pub micros-requires : goal.micros-requires
micros-requires c = omega (arith, c.requires, word_end (sized whole_part _ _ _ _ c.run.ensures _ _ c.in_ok-seconds.was))

pub returns-in_err-rest : goal.returns-in_err-rest
unfolding SizeAt
returns-in_err-rest c = rw c.from_residual-in_err-rest.ensures tt

pub overflow_mul-result : goal.overflow_mul-result
overflow_mul-result c = omega (arith, part_below _ _ _ _ (sized whole_part _ _ _ _ c.run.ensures _ _ c.in_ok-seconds.was))

pub overflow_add-result : goal.overflow_add-result
overflow_add-result c = omega (arith, part_below _ _ _ _ (sized whole_part _ _ _ _ c.run.ensures _ _ c.in_ok-seconds.was), (micros _ _ _ c.micros.ensures _ c.in_ok-rest.was).below)

pub overflow_add-result-2 : goal.overflow_add-result-2
overflow_add-result-2 c = omega (arith, c.requires, word_end (sized whole_part _ _ _ _ c.run.ensures _ _ c.in_ok-seconds.was))

pub returns : goal.returns
unfolding SizeAt
returns c = time_here _ _ _ _ _ (sized whole_part _ _ _ _ c.run.ensures _ _ c.in_ok-seconds.was) (micros _ _ _ c.micros.ensures _ c.in_ok-rest.was)
