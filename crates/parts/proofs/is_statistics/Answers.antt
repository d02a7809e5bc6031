use mathlib.Core.Path.{◌∙◌}
use mir.Facts.{to_z-of_z}
use Rattle.parts.proofs.Statistics.{above}
use Rattle.parts.proofs.is_statistics.Goals as goal

pub returns-else-kind-leminus101 : goal.returns-else-kind-leminus101
returns-else-kind-leminus101 c = let h = c.if-kind-leminus101.false in h ∙ above (to_z-of_z c.ranges.kind) h
