use Rattle.walk.proofs.Ways.{next_told}
use Rattle.walk.proofs.Steps.next_of.Goals as goal

pub returns : goal.returns
returns c = next_told _ _ _ _ _ c.number_at-processor.ensures c.number_at-send.ensures c.rank_at-rank.ensures
    c.onward.ensures
