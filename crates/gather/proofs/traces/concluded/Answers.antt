use Rattle.gather.proofs.Program.{concludes}
use Rattle.gather.proofs.traces.concluded.Goals as goal

pub returns : goal.returns
returns g c = concludes _ _ c.told-merged.ensures _ _ _ _ c.join_into-joint.ensures.is c.after_merging.ensures
