use mathlib.Core.Path.{refl}
use Rattle.showing.specs.Chained.{answer_of}
use Rattle.showing.proofs.chained.answer_of.Goals as goal

pub returns : goal.returns
unfolding answer_of
returns c = refl
