use mathlib.Core.Path.{◌∙◌}
use mir.Facts.{to_z-of_z}
use Rattle.signed.proofs.Sizes.{size_told}
use Rattle.signed.proofs.size.Goals as goal

pub returns : goal.returns
returns c = c.ok.ensures.value ∙ size_told _ (to_z-of_z c.ranges.z) c.ranges.z c.try_from.ensures
