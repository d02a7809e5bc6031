use Rattle.flags.proofs.Pairs.{going_start, at_end, pair_bad, pair_good}
use Rattle.flags.proofs.planned.Goals as goal

pub loop-at-init : goal.loop-at-init
loop-at-init c = going_start _ _ c.nothing-given.ensures

pub returns-in_default : goal.returns-in_default
returns-in_default c = pair_bad c.loop-at.invariant c.loop-at-test.true c.word_at-name.ensures c.word_at-value.ensures c.take_pair.ensures c.in_default.is

pub loop-at-preserved : goal.loop-at-preserved
loop-at-preserved c = pair_good c.loop-at.invariant c.loop-at-test.true c.word_at-name.ensures c.word_at-value.ensures c.take_pair.ensures c.in-Some.is

pub returns : goal.returns
returns c = at_end c.loop-at.invariant c.loop-at-test.false c.conclude.ensures
