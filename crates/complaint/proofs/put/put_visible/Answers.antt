use Rattle.std.proofs.Common.{arith, rules}
use Rattle.complaint.proofs.Shows.{visible_none, visible_on, visible_all}
use Rattle.complaint.proofs.put.put_visible.Goals as goal

pub loop-i-init : goal.loop-i-init
loop-i-init c = visible_none _ c.args.word.now _ c.requires

pub loop-i-preserved : goal.loop-i-preserved
loop-i-preserved c = visible_on _ _ c.loop-i.i c.requires c.loop-i.invariant (omega arith) (search rules)

pub returns : goal.returns
returns c = visible_all _ _ _ c.requires c.loop-i.invariant (omega arith)
