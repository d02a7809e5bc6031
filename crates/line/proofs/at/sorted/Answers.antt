use mathlib.Core.Path.{refl, sym, ◌∙◌}
use Rattle.paper.specs.Line.{listed_line, unlisted, sorted}
use Rattle.paper.specs.declared.Standing.TheVariants as Standing
use Rattle.line.specs.Quick.{QuickAt}
use Rattle.line.proofs.Sorts.{listed_as}
use Rattle.line.proofs.Heres.{opened_six, quick_here}
use borrow.Author.Rules.{rules}
use Rattle.line.proofs.at.sorted.Goals as goal

pub returns-in_err-h : goal.returns-in_err-h
unfolding QuickAt
returns-in_err-h c = rw c.from_residual.ensures tt

pub returns-in-Listed : goal.returns-in-Listed
returns-in-Listed c = let six = opened_six _ _ _ c.read_six.ensures _ _ _ c.in_ok-h.was in
    quick_here _ _ _ _ _ _ six (search rules) (search rules) _ c.standing.ensures (listed_line _) (λ f. listed_as _ _ f _ c.in-Listed.is) _ c.with_data.ensures

pub returns-in-NotHandled : goal.returns-in-NotHandled
unfolding QuickAt
returns-in-NotHandled c = tt

pub returns-in-Unlisted : goal.returns-in-Unlisted
unfolding sorted
returns-in-Unlisted c = let six = opened_six _ _ _ c.read_six.ensures _ _ _ c.in_ok-h.was in
    quick_here _ _ _ _ _ _ six (search rules) (search rules) Standing.Unlisted (sym c.in-Unlisted.is ∙ c.standing.ensures) (unlisted _ _) (λ f. refl) _ c.over.ensures
