use Rattle.ranks.specs.Inner.{moved, full, still}
use Rattle.ranks.proofs.seeds.sow.Goals as goal

pub returns-then-ranks-i-ne0 : goal.returns-then-ranks-i-ne0
returns-then-ranks-i-ne0 c = moved c.if-ranks-i-ne0.true

pub returns-then-queue-tail : goal.returns-then-queue-tail
returns-then-queue-tail c = full c.if-queue-tail.true

pub returns : goal.returns
returns c = still c.if-ranks-i-ne0.false c.if-queue-tail.false
