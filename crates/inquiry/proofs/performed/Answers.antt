use Rattle.inquiry.proofs.Program.{ended, judges}
use Rattle.inquiry.proofs.performed.Goals as goal

pub returns-in-Err : goal.returns-in-Err
returns-in-Err g c = ended _ _ _ _ _ c.begun.ensures c.in-Err.is c.say.ensures

pub returns-in-Ok : goal.returns-in-Ok
returns-in-Ok g c = judges _ _ _ _ _ c.begun.ensures c.in-Ok.is c.of_names.ensures
