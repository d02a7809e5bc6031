use Rattle.ranks.specs.Inner.{outside, other, early, full, new}
use Rattle.ranks.proofs.spread.mark.Goals as goal

pub returns-then-table-place : goal.returns-then-table-place
returns-then-table-place c = outside c.if-table-place.true

pub returns-then-table-place-2 : goal.returns-then-table-place-2
returns-then-table-place-2 c = other c.if-table-place-2.true

pub returns-then-ranks-place : goal.returns-then-ranks-place
returns-then-ranks-place c = early c.if-ranks-place.true

pub returns-then-queue-tail : goal.returns-then-queue-tail
returns-then-queue-tail c = full c.if-queue-tail.true

pub returns : goal.returns
returns c = let c₃ = c in
    new c₃.if-table-place.false c₃.if-table-place-2.false c.if-ranks-place.false c.if-queue-tail.false
