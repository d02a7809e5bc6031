-- None, as many as the line has.
use Rattle.quick.specs.Lines.{HoldsAt, DataAt}
use Rattle.quick.proofs.Takes.{no_data_here}
use Rattle.quick.proofs.body.none.Goals as goal

pub returns-then-n-eq0 : goal.returns-then-n-eq0
returns-then-n-eq0 c = λ s kind. no_data_here s _ kind _ c.if-n-eq0.true

pub returns-else-n-eq0 : goal.returns-else-n-eq0
unfolding HoldsAt DataAt
returns-else-n-eq0 c = λ s kind. tt
