use borrow.Author.Rules.{rules}
use Rattle.store.specs.Layout.{width}
use Rattle.store.proofs.Places.{processor_is}
use Rattle.store.proofs.processor_at.Goals as goal

pub part-mixed-requires : goal.part-mixed-requires
unfolding width
part-mixed-requires c = search rules

pub returns : goal.returns
returns c = processor_is _ _ c.part-mixed.ensures
