-- The statement of `part_of` leaves one answer.
use mathlib.Core.Path.{◌≡◌, sym, ◌∙◌}
use lib.IntN.{ℤ}
use Rattle.paper.specs.Line.{part_of}
use Rattle.paper.specs.declared.Part.{Part}

pub one_part : (kind event : ℤ) (r q : Part) → r ≡ part_of kind event → q ≡ part_of kind event → r ≡ q
one_part kind event r q e f = e ∙ sym f
