use Rattle.tables.proofs.Program.{is_whole, is_unmade}
use Rattle.tables.proofs.made.concluded.Goals as goal

pub returns-in-Ok : goal.returns-in-Ok
returns-in-Ok g c = is_whole _ c.make.ensures.answer c.in-Ok.is (record { stored = c.store.result; says = c.stored_told.ensures })

pub returns-in-Err : goal.returns-in-Err
returns-in-Err g c = is_unmade _ c.make.ensures.answer c.in-Err.is c.unmade_told.ensures
