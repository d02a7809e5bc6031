use mathlib.Core.Path.{◌∙◌}
use Rattle.table.proofs.Written.{stored}
use Rattle.table.proofs.write.put_four.Goals as goal

pub returns : goal.returns
returns c = stored _ _ _ c.args.n c.requires (c.copy_from_slice.ensures.after ∙ c.to_le_bytes-four.ensures)
