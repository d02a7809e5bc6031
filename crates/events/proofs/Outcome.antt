-- The statement of `standing` leaves one answer.
use mathlib.Core.Path.{◌≡◌, sym, ◌∙◌}
use lib.IntN.{ℤ}
use Rattle.paper.specs.Events.{standing_of}
use Rattle.paper.specs.declared.Standing.{Standing}

pub one_standing : (event : ℤ) (r q : Standing) → r ≡ standing_of event → q ≡ standing_of event → r ≡ q
one_standing event r q e f = e ∙ sym f
