use Rattle.ranks.proofs.Counts.{slices}
use Rattle.ranks.proofs.ranks_into.Goals as goal

pub count-requires : goal.count-requires
count-requires c = slices _ _ _ _ _ _ c.fit.ensures c.if-fit.true
