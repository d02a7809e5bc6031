use mathlib.Core.Path.{refl}
use Rattle.showing.specs.Chained.{lent_list}
use Rattle.showing.proofs.chained.zeros.Goals as goal

pub returns : goal.returns
unfolding lent_list
returns c = refl
