-- the first places of the slices are room for the records that were read.
use Rattle.reach.proofs.Comparing.{compares, not_compared}
use Rattle.reach.proofs.lines.compare.Goals as goal

pub returns-then-asked-ne1 : goal.returns-then-asked-ne1
returns-then-asked-ne1 c = not_compared _ c.if-asked-ne1.true _ _

pub returns : goal.returns
returns c = compares c.requires _ c.if-asked-ne1.false c.compare.ensures
