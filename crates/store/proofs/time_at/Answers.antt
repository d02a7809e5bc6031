use mathlib.Core.Path.{◌∙◌}
use borrow.Author.Rules.{rules}
use Rattle.store.specs.Layout.{width}
use Rattle.store.proofs.Places.{through, time_is}
use Rattle.store.proofs.time_at.Goals as goal

pub part-low-requires : goal.part-low-requires
unfolding width
part-low-requires c = search rules

pub part-high-requires : goal.part-high-requires
unfolding width
part-high-requires c = search rules

pub returns : goal.returns
returns c = through (time_is _ _ (c.from.ensures ∙ c.part-low.ensures) (c.from-2.ensures ∙ c.part-high.ensures) c.from_code.ensures) (search rules)
