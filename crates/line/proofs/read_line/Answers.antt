use mathlib.Core.Path.{◌∙◌}
use Rattle.line.proofs.Sorts.{opened, not_opened}
use Rattle.line.proofs.read_line.Goals as goal

pub returns-in-Ok : goal.returns-in-Ok
returns-in-Ok c = c.sort_line.ensures ∙ opened _ _ _ c.read_head.ensures _ _ c.in-Ok.is

pub returns-in-Err : goal.returns-in-Err
returns-in-Err c = not_opened _ _ _ c.read_head.ensures _ _ c.in-Err.is
