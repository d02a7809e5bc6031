use borrow.Author.Rules.{rules}
use Rattle.line.proofs.Parts.{own_processor, other_processor}
use Rattle.line.proofs.listed.misplaced.Goals as goal

pub returns-then-is_some : goal.returns-then-is_some
returns-then-is_some c = own_processor _ (search rules) c.up_to.ensures c.is_some.ensures c.if-is_some.true

pub returns-else-is_some : goal.returns-else-is_some
returns-else-is_some c = other_processor _ (search rules) c.up_to.ensures c.is_some.ensures c.if-is_some.false
