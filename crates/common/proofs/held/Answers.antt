use Rattle.common.proofs.Tables.{going_none, going_more, going_all}
use Rattle.common.proofs.held.Goals as goal

pub loop-i-init : goal.loop-i-init
loop-i-init c = going_none _ _

pub loop-i-preserved : goal.loop-i-preserved
loop-i-preserved c = going_more _ _ c.loop-i.invariant c.loop-i-test.true c.processor_at-p.ensures

pub returns : goal.returns
returns c = going_all _ _ c.loop-i.invariant c.loop-i-test.false
