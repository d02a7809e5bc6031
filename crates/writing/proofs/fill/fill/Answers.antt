use mathlib.Core.Path.{refl}
use native.Mathlib.Omega.{arith}
use borrow.Author.Rules.{rules}
use Rattle.writing.proofs.Filling.{filling_start, stamp_held, run_fits, run_filled, last_fits, filled}
use Rattle.writing.proofs.fill.fill.Goals as goal

pub loop-k-init : goal.loop-k-init
loop-k-init c = filling_start _ _ c.next_moved-k.ensures

pub overflow_add-end : goal.overflow_add-end
overflow_add-end c = let p = stamp_held c.loop-k.invariant c.requires c.loop-k-test.true c.stamp_of-stamp.ensures refl in
    omega (arith, p.ends, c.well_formed.0.1)

pub slice_bounds-put_run-count : goal.slice_bounds-put_run-count
slice_bounds-put_run-count c = (stamp_held c.loop-k.invariant c.requires c.loop-k-test.true c.stamp_of-stamp.ensures refl).begins

pub slice_bounds-put_run-start : goal.slice_bounds-put_run-start
slice_bounds-put_run-start c = (stamp_held c.loop-k.invariant c.requires c.loop-k-test.true c.stamp_of-stamp.ensures refl).begins

pub put_run-to-requires : goal.put_run-to-requires
put_run-to-requires c = run_fits c.loop-k.invariant c.requires c.loop-k-test.true c.stamp_of-stamp.ensures (search rules)

pub loop-k-preserved : goal.loop-k-preserved
loop-k-preserved c = run_filled c.loop-k.invariant c.requires c.loop-k-test.true c.stamp_of-stamp.ensures (search rules)
    c.put_run-to.ensures c.next_moved-k-in-loop-k.ensures

pub put-requires : goal.put-requires
put-requires c = last_fits c.loop-k.invariant c.requires c.loop-k-test.false

pub returns : goal.returns
returns c = filled c.loop-k.invariant c.requires c.loop-k-test.false c.put.ensures
