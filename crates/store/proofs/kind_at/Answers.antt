use borrow.Author.Rules.{rules}
use Rattle.store.specs.Layout.{width}
use Rattle.store.proofs.Places.{through, kind_is}
use Rattle.store.proofs.kind_at.Goals as goal

pub whole-requires : goal.whole-requires
unfolding width
whole-requires c = search rules

pub returns : goal.returns
returns c = kind_is _ _ (through c.whole.ensures (search rules))
