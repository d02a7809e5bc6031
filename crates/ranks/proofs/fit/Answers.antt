use mathlib.Core.Path.{◌∙◌}
use Rattle.ranks.proofs.Fits.{many, even}
use Rattle.ranks.proofs.fit.Goals as goal
use borrow.Author.Tests.{le-ltb}

pub returns-then-n-lt-TOO_MANY : goal.returns-then-n-lt-TOO_MANY
returns-then-n-lt-TOO_MANY c = even _ _ c.if-n-lt-TOO_MANY.true c.all_are.ensures

pub returns-else-n-lt-TOO_MANY : goal.returns-else-n-lt-TOO_MANY
returns-else-n-lt-TOO_MANY c = le-ltb _ _ c.if-n-lt-TOO_MANY.false ∙ many _ _ c.if-n-lt-TOO_MANY.false
