use borrow.Author.Rules.{rules}
use Rattle.store.specs.Layout.{width}
use Rattle.store.proofs.Places.{line_is}
use Rattle.store.proofs.line_at.Goals as goal

pub part-line-requires : goal.part-line-requires
unfolding width
part-line-requires c = search rules

pub returns : goal.returns
returns c = line_is _ _ c.part-line.ensures
