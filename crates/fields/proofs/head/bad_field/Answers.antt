use Rattle.begins.proofs.Outcome.{there, not_there}
use Rattle.fields.specs.Cursor.{bad_field}
use Rattle.fields.proofs.head.bad_field.Goals as goal

pub returns-in-Some : goal.returns-in-Some
unfolding bad_field
returns-in-Some c = rw (there c.begin_of.ensures _ c.in-Some.is).is

pub returns-in-None : goal.returns-in-None
unfolding bad_field
returns-in-None c = rw (not_there c.begin_of.ensures c.in-None.is).is
