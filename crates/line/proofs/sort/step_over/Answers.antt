use Rattle.paper.specs.Line.{step_over}
use Rattle.line.proofs.sort.step_over.Goals as goal

pub returns-in-Strict : goal.returns-in-Strict
unfolding step_over
returns-in-Strict c = rw (c.in-Strict.is, c.unknown.ensures)

pub returns-in-Lenient : goal.returns-in-Lenient
unfolding step_over
returns-in-Lenient c = rw c.in-Lenient.is
