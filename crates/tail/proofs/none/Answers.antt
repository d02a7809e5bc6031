-- The line has ended.
use Rattle.tail.specs.Ends.{EndsAt}
use Rattle.tail.proofs.Tails.{ended_here}
use Rattle.tail.proofs.none.Goals as goal

pub returns-then-n-eq0 : goal.returns-then-n-eq0
returns-then-n-eq0 c = λ s. ended_here s _ _ c.if-n-eq0.true

pub returns-else-n-eq0 : goal.returns-else-n-eq0
unfolding EndsAt
returns-else-n-eq0 c = λ s. tt
