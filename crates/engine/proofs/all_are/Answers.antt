use Rattle.engine.specs.Promise.{all_are}
use Rattle.engine.proofs.all_are.Goals as goal

pub returns : goal.returns
unfolding all_are
returns c = c.eq.ensures
