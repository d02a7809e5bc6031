use Rattle.line.specs.Quick.{RestAt}
use Rattle.line.proofs.Heres.{over_rest}
use Rattle.line.proofs.at.over.Goals as goal

pub returns-in_err-next : goal.returns-in_err-next
unfolding RestAt
returns-in_err-next c = rw c.from_residual.ensures tt

pub returns : goal.returns
returns c = over_rest _ _ _ _ _ _ c.read_end.ensures _ c.in_ok-next.was _ c.step_over.ensures
