use Rattle.mail.proofs.Gathering.{starts, turn}
use Rattle.mail.proofs.gather.Goals as goal

pub loop-receive-init : goal.loop-receive-init
loop-receive-init c = starts _ _ c.if-numbers-listed.false

pub loop-receive-preserved : goal.loop-receive-preserved
loop-receive-preserved c = turn _ _ c.loop-receive.invariant c.loop-receive-test.true c.note-count.ensures
