use Rattle.reading.proofs.Found.{line_here}
use Rattle.statistics.proofs.Pairs.{line_compared, never_behind, not_compared}
use Rattle.statistics.proofs.line.line_differs.Goals as goal

pub returns-then-not-is_compared : goal.returns-then-not-is_compared
returns-then-not-is_compared c stands = not_compared _ _ _ _ c.is_compared.ensures c.if-not-is_compared.true

pub returns-then-trace-start : goal.returns-then-trace-start
returns-then-trace-start c = never_behind _ _ _ _ c.start_at-start.ensures c.if-trace-start.true

pub returns : goal.returns
returns c = line_compared _ _ _ _ c.is_compared.ensures c.if-not-is_compared.false c.start_at-start.ensures (line_here _ _ _ c.find-end.ensures.place) c.bytes_differ.ensures
