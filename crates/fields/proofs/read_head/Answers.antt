use mathlib.Core.Path.{◌∙◌}
use Rattle.field.proofs.Cursors.{without}
use Rattle.fields.specs.Cursor.{begun_of}
use Rattle.fields.proofs.Heads.{good_six, bad_six}
use Rattle.fields.proofs.read_head.Goals as goal

pub returns-in-Ok : goal.returns-in-Ok
returns-in-Ok c = good_six _ _ c.six.ensures c.in-Ok.begun.0 c.in-Ok.begun.1 c.in-Ok.is

pub returns-in-Err : goal.returns-in-Err
unfolding begun_of
returns-in-Err c = without _ (c.bad_field.ensures ∙ bad_six _ _ c.six.ensures _ _ c.in-Err.is)
