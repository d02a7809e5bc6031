use native.Mathlib.Omega.{arith}
use borrow.Author.Rules.{rules}
use Rattle.writing.proofs.Sums.{summing_start, summed, not_placed, stamp_sound, summing_next}
use Rattle.std.proofs.lemmas.Bool.{not_from_false, not_from_true}
use Rattle.writing.proofs.measure.sum.Goals as goal

pub loop-k-init : goal.loop-k-init
loop-k-init c = summing_start _ c.next_moved-k.ensures

pub returns-then-not-in_place : goal.returns-then-not-in_place
returns-then-not-in_place c = not_placed c.loop-k.invariant c.loop-k-test.true c.stamp_of-stamp.ensures (search rules)
    c.shown_length-new.ensures c.in_place.ensures (not_from_false _ c.if-not-in_place.true)

pub overflow_sub-gained : goal.overflow_sub-gained
overflow_sub-gained c =
    let placed =
    stamp_sound c.loop-k.invariant c.loop-k-test.true c.stamp_of-stamp.ensures (search rules) c.shown_length-new.ensures c.in_place.ensures
    (not_from_true _ c.if-not-in_place.false)
    in
    omega (arith, placed.low)

pub overflow_add-gained : goal.overflow_add-gained
overflow_add-gained c =
    let placed =
    stamp_sound c.loop-k.invariant c.loop-k-test.true c.stamp_of-stamp.ensures (search rules) c.shown_length-new.ensures c.in_place.ensures
    (not_from_true _ c.if-not-in_place.false)
    in
    omega (arith, placed.high, c.loop-k.invariant.more, c.loop-k.invariant.going.stops.high, c.well_formed.1.1.0.1)

pub overflow_sub-lost : goal.overflow_sub-lost
overflow_sub-lost c =
    let placed =
    stamp_sound c.loop-k.invariant c.loop-k-test.true c.stamp_of-stamp.ensures (search rules) c.shown_length-new.ensures c.in_place.ensures
    (not_from_true _ c.if-not-in_place.false)
    in
    placed.was

pub overflow_add-lost : goal.overflow_add-lost
overflow_add-lost c =
    let placed =
    stamp_sound c.loop-k.invariant c.loop-k-test.true c.stamp_of-stamp.ensures (search rules) c.shown_length-new.ensures c.in_place.ensures
    (not_from_true _ c.if-not-in_place.false)
    in
    omega (arith, placed, c.loop-k.invariant.less, c.well_formed.0.1)

pub overflow_add-from : goal.overflow_add-from
overflow_add-from c =
    let placed =
    stamp_sound c.loop-k.invariant c.loop-k-test.true c.stamp_of-stamp.ensures (search rules) c.shown_length-new.ensures c.in_place.ensures
    (not_from_true _ c.if-not-in_place.false)
    in
    omega (arith, placed.ends, c.well_formed.0.1)

pub loop-k-preserved : goal.loop-k-preserved
loop-k-preserved c = summing_next c.loop-k.invariant c.loop-k-test.true c.stamp_of-stamp.ensures (search rules)
    c.shown_length-new.ensures c.in_place.ensures (not_from_true _ c.if-not-in_place.false) c.next_moved-k-in-loop-k.ensures

pub returns : goal.returns
returns c = summed c.loop-k.invariant c.loop-k-test.false
