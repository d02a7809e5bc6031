use Rattle.merging.proofs.Calls.{told_refused, told_joined}
use Rattle.merging.proofs.told.Goals as goal

pub returns-in-Err : goal.returns-in-Err
returns-in-Err c = told_refused _ _ _ c.in-Err.is c.number.ensures c.which_of.ensures

pub returns-in-Ok : goal.returns-in-Ok
returns-in-Ok c = told_joined _ c.in-Ok.is
