use mathlib.Core.Path.{◌∙◌}
use Rattle.values.proofs.Values.{not_three}
use Rattle.values.proofs.wholes.Goals as goal

pub returns-else-n-eq3 : goal.returns-else-n-eq3
returns-else-n-eq3 c = c.others.ensures ∙ not_three _ _ _ _ c.if-n-eq3.false
