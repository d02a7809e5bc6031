use Rattle.levels.proofs.Processors.{going_none, going_more, not_asked, asked_for}
use Rattle.levels.proofs.check.Goals as goal

pub returns-then-asked-ne1 : goal.returns-then-asked-ne1
returns-then-asked-ne1 c = not_asked _ _ c.if-asked-ne1.true

pub loop-i-init : goal.loop-i-init
loop-i-init c = rw (c.for_each-last.ensures, c.for_each-mark.ensures) (going_none _ _)

pub loop-i-preserved : goal.loop-i-preserved
loop-i-preserved c = going_more _ _ c.loop-i.invariant c.loop-i-test.true c.processor_at-p.ensures _ c.later.ensures

pub returns : goal.returns
returns c = asked_for _ _ c.if-asked-ne1.false c.first_off.ensures
