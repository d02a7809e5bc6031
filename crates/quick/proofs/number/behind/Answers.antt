-- One way or the other.
use Rattle.quick.specs.Words.{start_at}
use Rattle.quick.proofs.number.behind.Goals as goal

pub returns-then-minus : goal.returns-then-minus
unfolding start_at
returns-then-minus c = rw c.if-minus.true

pub returns-else-minus : goal.returns-else-minus
unfolding start_at
returns-else-minus c = rw c.if-minus.false
