use borrow.Author.Rules.{rules}
use Rattle.store.specs.Layout.{width}
use Rattle.store.proofs.Places.{through, event_is}
use Rattle.store.proofs.event_at.Goals as goal

pub whole-requires : goal.whole-requires
unfolding width
whole-requires c = search rules

pub returns : goal.returns
returns c = event_is _ _ (through c.whole.ensures (search rules))
