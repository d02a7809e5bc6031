use mathlib.Core.Path.{refl}
use Rattle.walk.proofs.Ways.{rank_there, rank_past}
use Rattle.walk.proofs.rank_at.Goals as goal

pub returns-then-i-ranks : goal.returns-then-i-ranks
returns-then-i-ranks c = rank_there _ _ c.if-i-ranks.true refl

pub returns-else-i-ranks : goal.returns-else-i-ranks
returns-else-i-ranks c = rank_past _ _ c.if-i-ranks.false
