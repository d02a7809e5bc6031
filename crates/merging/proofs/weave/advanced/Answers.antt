use mathlib.Core.Path.{refl}
use Rattle.merging.specs.Weave.{advanced_by}
use Rattle.merging.proofs.weave.advanced.Goals as goal

pub returns-then-first_goes : goal.returns-then-first_goes
unfolding advanced_by
returns-then-first_goes c = rw (← c.first_goes.ensures, c.if-first_goes.true) (c.head_at.ensures, refl)

pub returns-else-first_goes : goal.returns-else-first_goes
unfolding advanced_by
returns-else-first_goes c = rw (← c.first_goes.ensures, c.if-first_goes.false) (refl, c.head_at-else-first_goes.ensures)
