use mathlib.Core.Path.{◌∙◌}
use mir.Facts.{to_z-of_z}
use Rattle.parts.proofs.OneOf.{contained}
use Rattle.parts.proofs.one_of.Goals as goal

pub returns : goal.returns
returns c = c.contains.ensures.value ∙ contained _ (to_z-of_z c.ranges.z)
