use borrow.Author.Rules.{rules}
use Rattle.field.specs.Cursor.{read_as}
use Rattle.quick.specs.Lines.{DataAt}
use Rattle.quick.proofs.Moves.{value_of}
use Rattle.quick.proofs.Takes.{taking_start, taking_more, taking_end, last_test}
use Rattle.quick.proofs.body.values.Goals as goal

pub loop-left-init : goal.loop-left-init
loop-left-init c = taking_start _ _ _ _ c.requires

pub returns-in_err-v : goal.returns-in_err-v
unfolding DataAt
returns-in_err-v c = rw c.from_residual.ensures tt

pub loop-left-preserved : goal.loop-left-preserved
loop-left-preserved c =
    taking_more c.loop-left.invariant c.loop-left-test.true _ (search rules) (last_test _ c.loop-left-test.true)
    (value_of (read_as _) _ _ _ _ c.value.ensures _ _ c.in_ok-v.was)

pub returns : goal.returns
unfolding DataAt
returns c = taking_end c.loop-left.invariant c.loop-left-test.false c.kept.ensures
