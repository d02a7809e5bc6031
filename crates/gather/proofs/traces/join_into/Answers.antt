use borrow.Author.Rules.{rules}
use Rattle.gather.proofs.Lent.{joins_into}
use Rattle.gather.proofs.traces.join_into.Goals as goal

pub returns : goal.returns
returns c = joins_into _ _ _ _ _ c.join.ensures (search rules) c.join.auto.room
