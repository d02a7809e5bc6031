use Rattle.line.proofs.Sorts.{end_none, end_some}
use Rattle.line.proofs.sort.good_end.Goals as goal

pub returns-then-count-eq0 : goal.returns-then-count-eq0
returns-then-count-eq0 c = end_none _ _ _ c.if-count-eq0.true

pub returns-else-count-eq0 : goal.returns-else-count-eq0
returns-else-count-eq0 c = end_some _ _ _ c.if-count-eq0.false
