-- its test is that of `values_from`.
use borrow.Author.Rules.{rules}
use Rattle.store.specs.Layout.{width}
use Rattle.store.proofs.Places.{through, three, others}
use Rattle.store.proofs.values_at.Goals as goal

pub part-mixed-requires : goal.part-mixed-requires
unfolding width
part-mixed-requires c = search rules

pub whole-a-requires : goal.whole-a-requires
unfolding width
whole-a-requires c = search rules

pub whole-b-requires : goal.whole-b-requires
unfolding width
whole-b-requires c = search rules

pub whole-c-requires : goal.whole-c-requires
unfolding width
whole-c-requires c = search rules

pub returns-then-form-eq1 : goal.returns-then-form-eq1
returns-then-form-eq1 c = three _ _ c.part-mixed.ensures (through c.whole-a.ensures (search rules)) (through c.whole-b.ensures (search rules)) (through c.whole-c.ensures (search rules)) c.if-form-eq1.true

pub returns : goal.returns
returns c = others _ _ c.part-mixed.ensures c.if-form-eq1.false
