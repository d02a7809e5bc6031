use borrow.Author.Rules.{rules}
use mathlib.Core.Path.{sym, ◌∙◌}
use Rattle.paper.specs.Line.{sorted}
use Rattle.paper.specs.declared.Standing.TheVariants as Standing
use Rattle.line.proofs.Sorts.{listed_as, stands}
use Rattle.line.proofs.sort.sort_line.Goals as goal

pub returns-in-Listed : goal.returns-in-Listed
returns-in-Listed c = c.listed_line.ensures ∙ listed_as _ _ _ _ c.in-Listed.is ∙ stands _ _ _ _ (search rules) (search rules) c.standing.ensures

pub returns-in-NotHandled : goal.returns-in-NotHandled
unfolding sorted
returns-in-NotHandled c = stands _ _ _ Standing.NotHandled (search rules) (search rules) (sym c.in-NotHandled.is ∙ c.standing.ensures)

pub returns-in-Unlisted : goal.returns-in-Unlisted
unfolding sorted
returns-in-Unlisted c = c.over.ensures ∙ stands _ _ _ Standing.Unlisted (search rules) (search rules) (sym c.in-Unlisted.is ∙ c.standing.ensures)
