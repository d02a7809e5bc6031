-- The seven bytes, and what they say.
use mathlib.Core.Path.{refl}
use Rattle.quick.specs.Stamps.{MicrosAt}
use Rattle.quick.proofs.Sums.{micros_here}
use Rattle.quick.proofs.stamp.micros.Goals as goal

pub returns-then-no_micros : goal.returns-then-no_micros
unfolding MicrosAt
returns-then-no_micros c = tt

pub returns : goal.returns
unfolding MicrosAt
returns c = micros_here _ _ c.requires refl refl refl refl refl refl refl _ (c.no_micros.ensures c.if-no_micros.false) c.six.ensures
