use borrow.Author.Rules.{rules}
use Rattle.store.specs.Layout.{width, capacity}
use Rattle.store.proofs.Places.{no_part, a_part}
use Rattle.store.proofs.parts.part.Goals as goal

pub returns-then-store-i : goal.returns-then-store-i
unfolding capacity width
returns-then-store-i c = no_part _ _ _ c.if-store-i.true

pub overflow_add-result : goal.overflow_add-result
unfolding width
overflow_add-result c = search rules

pub offset_bounds-store-i : goal.offset_bounds-store-i
unfolding width
offset_bounds-store-i c = search rules

pub bounds-store-i : goal.bounds-store-i
unfolding width
bounds-store-i c = search rules

pub returns : goal.returns
unfolding capacity width
returns c = a_part _ _ _ (search rules)
