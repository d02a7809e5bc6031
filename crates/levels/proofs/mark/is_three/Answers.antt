use Rattle.paper.specs.Levels.{is_three}
use Rattle.levels.proofs.mark.is_three.Goals as goal

pub returns-in-Three : goal.returns-in-Three
unfolding is_three
returns-in-Three c = rw c.in-Three.is

pub returns-in_default : goal.returns-in_default
unfolding is_three
returns-in_default c = rw c.in_default.is
