-- a number comes back from its code.
use mathlib.Core.Path.{◌∙◌}
use mir.Facts.{to_z-of_z}
use Rattle.signed.proofs.Codes.{apart_coded}
use Rattle.signed.proofs.apart.Goals as goal

pub returns : goal.returns
returns c = let c₂ = c in
    c.between.ensures
    ∙ apart_coded _ _ (rw (to_z-of_z c₂.ranges.earlier) at c₂.code.ensures) (rw (to_z-of_z c₂.ranges.later) at c.code-2.ensures)
