use mathlib.Core.Path.{sym, ◌∙◌}
use Rattle.line.proofs.Sorts.{end_good, end_bad}
use Rattle.line.proofs.sort.over.Goals as goal

pub returns-then-good_end : goal.returns-then-good_end
returns-then-good_end c = c.step_over.ensures ∙ end_good _ _ _ (sym c.good_end.ensures ∙ c.if-good_end.true)

pub returns-else-good_end : goal.returns-else-good_end
returns-else-good_end c = end_bad _ _ _ (sym c.good_end.ensures ∙ c.if-good_end.false)
