use mathlib.Core.Path.{◌∙◌}
use mir.Facts.{to_z-of_z}
use Rattle.paper.specs.Gaps.{gap_of}
use Rattle.waits.proofs.gap_of.Goals as goal

pub returns : goal.returns
unfolding gap_of
returns c = λ few.
    c.thousandths.ensures ∙ rw (simp (to_z-of_z, c.ranges.before, c.ranges.own) at c.apart.ensures)
