use Rattle.std.proofs.Common.{arith, sym, ◌∙◌}
use Rattle.text.proofs.Turns.{at_end, line_bad, line_good}
use Rattle.text.proofs.lines.read_lines.Goals as goal

pub returns-in_default : goal.returns-in_default
returns-in_default c =
    line_bad c.loop-at.invariant c.loop-at-test.true c.find-end.ensures.place (c.find-end.ensures.within (omega arith)) (sym c.read_line.ensures ∙ c.in_default.is)

pub loop-at-preserved : goal.loop-at-preserved
loop-at-preserved c =
    line_good c.loop-at.invariant c.loop-at-test.true c.find-end.ensures.place (c.find-end.ensures.within (omega arith)) (sym c.read_line.ensures ∙ c.in-Ok.is)
    c.put_said.ensures

pub returns : goal.returns
returns c = at_end c.loop-at.invariant c.loop-at-test.false
