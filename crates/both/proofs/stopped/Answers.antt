use Rattle.both.specs.Alone.{stop_in}
use Rattle.both.proofs.stopped.Goals as goal

pub returns-in-Ok : goal.returns-in-Ok
unfolding stop_in
returns-in-Ok c = rw c.in-Ok.is

pub returns-in-Err : goal.returns-in-Err
unfolding stop_in
returns-in-Err c = rw c.in-Err.is
