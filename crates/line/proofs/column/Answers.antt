use Rattle.paper.specs.Columns.{column_in}
use Rattle.line.proofs.column.Goals as goal

pub returns-in-Some : goal.returns-in-Some
unfolding column_in
returns-in-Some c = rw c.in-Some.is c.column.ensures

pub returns-in-None : goal.returns-in-None
unfolding column_in
returns-in-None c = rw c.in-None.is
