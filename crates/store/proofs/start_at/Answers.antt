use borrow.Author.Rules.{rules}
use Rattle.store.specs.Layout.{width, start_from}
use Rattle.store.specs.Parts.{part_at}
use Rattle.store.proofs.start_at.Goals as goal

pub part-start-requires : goal.part-start-requires
unfolding width
part-start-requires c = search rules

pub returns : goal.returns
unfolding start_from part_at
returns c = c.part-start.ensures
