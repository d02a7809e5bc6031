use Rattle.walk.proofs.Ways.{count_some, count_none}
use Rattle.walk.proofs.count_at.Goals as goal

pub returns-then-rank-ranks : goal.returns-then-rank-ranks
returns-then-rank-ranks c = count_some _ _ c.rank_at-rank.ensures c.if-rank-ranks.true

pub returns-else-rank-ranks : goal.returns-else-rank-ranks
returns-else-rank-ranks c = count_none _ _ c.rank_at-rank.ensures c.if-rank-ranks.false
