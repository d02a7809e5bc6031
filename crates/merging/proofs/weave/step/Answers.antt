use Rattle.merging.specs.Weave.{chosen}
use Rattle.merging.proofs.weave.step.Goals as goal

pub returns-then-first_goes : goal.returns-then-first_goes
unfolding chosen
returns-then-first_goes c = rw (← c.first_goes.ensures, c.if-first_goes.true)

pub returns-else-first_goes : goal.returns-else-first_goes
unfolding chosen
returns-else-first_goes c = rw (← c.first_goes.ensures, c.if-first_goes.false)
