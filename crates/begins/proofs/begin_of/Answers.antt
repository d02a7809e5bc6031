use native.Mathlib.Omega.{arith}
use Rattle.begins.proofs.Spaces.{at_start, reached, stops, goes}
use Rattle.begins.proofs.begin_of.Goals as goal

pub loop-init : goal.loop-init
loop-init c = at_start _ _ (omega arith)

pub returns-then-end-l : goal.returns-then-end-l
returns-then-end-l c = stops _ _ _ _ c.loop.invariant (omega arith) _ c.find-end.ensures.place c.if-end-l.true

pub loop-preserved : goal.loop-preserved
loop-preserved c = let find = c.find-end.ensures in
    goes _ _ _ _ c.loop.invariant (omega arith) _ find.place c.if-end-l.false (find.within c.loop.invariant.inside) (omega arith)

pub returns : goal.returns
returns c = reached _ _ _ _ c.loop.invariant (omega arith)
