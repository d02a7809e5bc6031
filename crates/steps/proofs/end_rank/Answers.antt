use Rattle.steps.proofs.Laws.{end_here, end_later}
use Rattle.steps.proofs.end_rank.Goals as goal

pub returns-then-time-original : goal.returns-then-time-original
returns-then-time-original c = end_here _ _ _ c.ranges.time c.ranges.original c.if-time-original.true

pub returns-else-time-original : goal.returns-else-time-original
returns-else-time-original c = end_later _ _ _ c.ranges.time c.ranges.original c.if-time-original.false
