use Rattle.line.specs.Quick.{RestAt}
use Rattle.line.proofs.Heres.{listed_rest}
use borrow.Author.Rules.{rules}
use Rattle.line.proofs.at.with_data.Goals as goal

pub returns-in_err-values : goal.returns-in_err-values
unfolding RestAt
returns-in_err-values c = rw c.from_residual.ensures tt

pub returns : goal.returns
returns c = listed_rest _ _ _ _ _ c.read_data.ensures (search rules) _ _ c.in_ok-values.was _ c.with_values.ensures
