-- One byte or the other.
use Rattle.quick.specs.Lines.{stop_of}
use Rattle.quick.proofs.head.stop.Goals as goal

pub returns-then-last : goal.returns-then-last
unfolding stop_of
returns-then-last c = rw c.if-last.true

pub returns-else-last : goal.returns-else-last
unfolding stop_of
returns-else-last c = rw c.if-last.false
