use Rattle.merging.proofs.Calls.{in_numbers}
use Rattle.merging.proofs.merge.Goals as goal

pub returns : goal.returns
returns c = in_numbers _ _ c.join.ensures c.told.ensures
