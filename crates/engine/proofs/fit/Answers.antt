use Rattle.engine.specs.Promise.{fitting}
use Rattle.engine.proofs.fit.Goals as goal

pub returns-then-all_are : goal.returns-then-all_are
unfolding fitting
returns-then-all_are c = rw (← c.gaps_for-gaps.ensures, ← c.all_are.ensures, c.if-all_are.true, c.none_wider.ensures)

pub returns-else-all_are : goal.returns-else-all_are
unfolding fitting
returns-else-all_are c = rw (← c.gaps_for-gaps.ensures, ← c.all_are.ensures, c.if-all_are.false)
