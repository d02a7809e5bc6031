use mathlib.Core.Path.{refl}
use Rattle.table.proofs.Written.{turn, end}
use Rattle.table.proofs.write.spread.Goals as goal

pub loop-i-preserved : goal.loop-i-preserved
loop-i-preserved c = turn c.loop-i.invariant c.loop-i-test.true refl c.put_four.auto.bytes c.put_four.ensures

pub returns : goal.returns
returns c = end c.loop-i.invariant c.loop-i-test.false
