use native.Mathlib.Omega.{arith}
use Rattle.deliveries.proofs.Going.{begins, goes_on_lem, all_put}
use Rattle.deliveries.proofs.put_lines.Goals as goal

pub loop-i-init : goal.loop-i-init
loop-i-init c = begins _ _ _ _

pub loop-i-preserved : goal.loop-i-preserved
loop-i-preserved c = goes_on_lem c.loop-i.invariant (omega arith)
    c.put_received-at.ensures

pub returns : goal.returns
returns c = all_put c.loop-i.invariant (omega arith)
