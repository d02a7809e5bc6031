use borrow.Author.Rules.{rules}
use Rattle.tail.proofs.Clears.{clear_more}
use Rattle.tail.proofs.clear.Goals as goal

pub loop-j-preserved : goal.loop-j-preserved
loop-j-preserved c = λ e. clear_more _ _ _ _ (search rules) c.loop-j.invariant e
