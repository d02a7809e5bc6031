use borrow.Author.Rules.{rules}
use Rattle.store.specs.Layout.{width, capacity}
use Rattle.store.proofs.capacity.Goals as goal

pub returns : goal.returns
unfolding capacity width
returns c = search rules
