-- its two tests are those of `role_from`.
use borrow.Author.Rules.{rules}
use Rattle.store.specs.Layout.{width}
use Rattle.store.proofs.Places.{sends, receives, neither}
use Rattle.store.proofs.role_at.Goals as goal

pub part-mixed-requires : goal.part-mixed-requires
unfolding width
part-mixed-requires c = search rules

pub returns-then-among-eq1 : goal.returns-then-among-eq1
returns-then-among-eq1 c = sends _ _ c.part-mixed.ensures c.message-m.ensures c.if-among-eq1.true

pub returns-then-among-eq2 : goal.returns-then-among-eq2
returns-then-among-eq2 c = receives _ _ c.part-mixed.ensures c.message-m-then-among-eq2.ensures c.if-among-eq2.true

pub returns : goal.returns
returns c = neither _ _ c.part-mixed.ensures c.if-among-eq1.false c.if-among-eq2.false
