use native.Mathlib.Omega.{arith}
use Rattle.ranks.proofs.Spreading.{tail_most}
use Rattle.ranks.proofs.Turns.{turn_keeps, head_in, tables_now, all_done}
use Rattle.ranks.proofs.spread.Steps.spread.Goals as goal

pub turn-tail-requires-clause-tables : goal.turn-tail-requires-clause-tables
turn-tail-requires-clause-tables c = tables_now c.requires.tables (c.loop-head.invariant _ c.requires.sown).queued.all_ranks

pub turn-tail-requires-clause-head : goal.turn-tail-requires-clause-head
turn-tail-requires-clause-head c = head_in _ _ _ _ (c.loop-head.invariant _ c.requires.sown) c.loop-head-test.true

pub overflow_add-head : goal.overflow_add-head
overflow_add-head c = omega (arith, c.loop-head-test.true, tail_most _ _ _ _ (c.loop-head.invariant _ c.requires.sown), c.requires.tables.few)

pub loop-head-smaller : goal.loop-head-smaller
loop-head-smaller c = omega (arith, c.loop-head-test.true, tail_most _ _ _ _ (c.loop-head.invariant _ c.requires.sown))

pub loop-head-preserved : goal.loop-head-preserved
loop-head-preserved c = λ before sown.
    let tables = c.requires.tables in
    turn_keeps _ _ _ before tables.all_first tables.all_second _ _ c.requires.turned_first c.requires.turned_second
    (c.loop-head.invariant before sown) c.loop-head-test.true c.turn-tail.ensures

pub returns : goal.returns
returns c = let tables = c.requires.tables in all_done tables.all_first tables.all_second c.loop-head.invariant c.loop-head-test.false
