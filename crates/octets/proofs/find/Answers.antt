use Rattle.std.proofs.Common.{sym, ◌∙◌}
use Rattle.octets.proofs.Places.{found_here, found_later, at_the_end}
use Rattle.octets.proofs.find.Goals as goal

pub returns-then-bytes-i-clause-place : goal.returns-then-bytes-i-clause-place
returns-then-bytes-i-clause-place c = sym (c.loop-i.invariant ∙ found_here _ _ _ c.loop-i-test.true c.if-bytes-i.true)

pub loop-i-preserved : goal.loop-i-preserved
loop-i-preserved c = c.loop-i.invariant ∙ found_later _ _ _ c.loop-i-test.true c.if-bytes-i.false

pub returns-clause-place : goal.returns-clause-place
returns-clause-place c =
    c.max.ensures ∙ at_the_end _ _ _ _ c.loop-i.invariant c.loop-i-test.false c.loop-i.auto.i c.loop-i.auto.i-end
