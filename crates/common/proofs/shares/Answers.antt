use Rattle.common.proofs.Tables.{shares_here, telling_more, shares_none}
use Rattle.common.proofs.shares.Goals as goal

pub returns-then-other-p : goal.returns-then-other-p
returns-then-other-p c = shares_here c.loop-i.invariant c.loop-i-test.true c.processor_at-p.ensures c.if-other-p.true

pub loop-i-preserved : goal.loop-i-preserved
loop-i-preserved c = telling_more c.loop-i.invariant c.loop-i-test.true c.processor_at-p.ensures c.if-other-p.false

pub returns : goal.returns
returns c = shares_none c.loop-i.invariant c.loop-i-test.false
