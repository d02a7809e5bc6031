use Rattle.statistics.proofs.Comparing.{begins, stops, goes_on_lem, ends}
use Rattle.statistics.proofs.first_difference.Goals as goal

pub loop-i-init : goal.loop-i-init
loop-i-init c = begins c.requires.0 c.requires.1 c.heads-heads.ensures

pub returns-then-line_differs : goal.returns-then-line_differs
returns-then-line_differs c = stops c.loop-i.invariant c.loop-i-test.true c.line_differs.ensures c.if-line_differs.true c.site_at.ensures

pub loop-i-preserved : goal.loop-i-preserved
loop-i-preserved c = goes_on_lem c.loop-i.invariant c.loop-i-test.true c.line_differs.ensures c.if-line_differs.false c.add.auto.link c.add.ensures

pub returns : goal.returns
returns c = ends c.loop-i.invariant c.loop-i-test.false
