use Rattle.paper.specs.Levels as levels
use Rattle.levels.proofs.expected.expected.Goals as goal

pub returns-in-Others : goal.returns-in-Others
unfolding levels.expected
returns-in-Others c = rw c.in-Others.is
