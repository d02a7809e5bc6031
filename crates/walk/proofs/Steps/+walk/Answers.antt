use Rattle.walk.proofs.Ways.{way_last, way_on}
use Rattle.walk.proofs.Steps.+walk.Goals as goal

pub returns-then-left-eq0 : goal.returns-then-left-eq0
returns-then-left-eq0 t c = rw c.from.ensures (way_last _ _ _ _ _ _ _ c.requires c.if-left-eq0.true)

pub returns : goal.returns
returns t c =
    way_on _ _ _ c.args.i c.args.at c.args.list.now c.args.left c.requires c.if-left-eq0.false c.next_of-to.ensures (rw c.from.ensures at c.walk.ensures)
