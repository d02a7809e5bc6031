use Rattle.std.proofs.lemmas.List.{take_min}
use Rattle.files.specs.File.{file_of, held_in}
use Rattle.files.proofs.read.held.Goals as goal

pub returns-in-Ok : goal.returns-in-Ok
unfolding held_in file_of
returns-in-Ok c = rw (c.in-Ok.is, c.min.ensures, take_min _ _)

pub returns-in-Err : goal.returns-in-Err
unfolding held_in file_of
returns-in-Err c = rw (c.in-Err.is)
