use Rattle.field.specs.Cursor.{read_as}
use Rattle.quick.specs.Lines.{DataAt}
use Rattle.quick.proofs.Moves.{value_of}
use Rattle.quick.proofs.Paired.{pairing_start, pairing_more, pairing_end}
use Rattle.quick.proofs.Takes.{last_test}
use Rattle.quick.proofs.pairs.pairs.Goals as goal

pub loop-left-init : goal.loop-left-init
loop-left-init c = pairing_start _ _ _ _ c.requires

pub returns-in_err-second : goal.returns-in_err-second
unfolding DataAt
returns-in_err-second c = rw c.from_residual.ensures tt

pub returns-in_err-next : goal.returns-in_err-next
unfolding DataAt
returns-in_err-next c = rw c.from_residual-in_err-next.ensures tt

pub loop-left-preserved : goal.loop-left-preserved
loop-left-preserved c =
    let event = value_of (read_as _) _ _ _ _ c.value.ensures _ _ c.in_ok-second.was in
    let told = value_of (read_as _) _ _ _ _ c.value-in-loop-left.ensures _ _ c.in_ok-next.was in
    pairing_more c.loop-left.invariant c.loop-left-test.true _ event _ (last_test _ c.loop-left-test.true) told

pub returns : goal.returns
unfolding DataAt
returns c = pairing_end c.loop-left.invariant c.loop-left-test.false
