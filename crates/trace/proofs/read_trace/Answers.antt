use mir.Syntax.{w64}
use lib.IntN.{pos}
use lib.ListN.{get_or}
use mir.Facts.{to_z-of_z}
use mathlib.Core.Path.{refl}
use native.Mathlib.Omega.{arith}
use borrow.Author.Rules.{rules}
use Rattle.paper.specs.Reading.{start}
use Rattle.trace.proofs.Going.{searched, column_here, compared, processor_in, at_end, at_unended, line_refused, line_passed, line_backwards, line_too_many, line_listed}
use Rattle.trace.proofs.read_trace.Goals as goal

pub lines-begun-requires : goal.lines-begun-requires
unfolding start
lines-begun-requires c = (c.capacity-most.ensures, refl)

pub returns-then-end-s : goal.returns-then-end-s
returns-then-end-s c = at_unended (c.loop-at.invariant _ c.lines-begun.ensures) _ c.loop-at-test.true c.find-end.ensures.place c.if-end-s.true

pub overflow_add-below : goal.overflow_add-below
overflow_add-below c = let now = c.loop-at.invariant _ c.lines-begun.ensures in omega (arith, now.line, now.inside)

pub returns-in-Refused : goal.returns-in-Refused
returns-in-Refused c = let find = c.find-end.ensures in
    let here = searched _ (find.place, find.within (omega arith)) c.if-end-s.false c.read_line.ensures in
    line_refused (c.loop-at.invariant _ c.lines-begun.ensures) here _ _ c.in-Refused.is (column_here _ _ _ find.place _ c.column.ensures)

pub overflow_add-passed : goal.overflow_add-passed
overflow_add-passed c = let now = c.loop-at.invariant _ c.lines-begun.ensures in omega (arith, now.counts, now.inside)

pub loop-at-preserved-in-Passed : goal.loop-at-preserved-in-Passed
loop-at-preserved-in-Passed c store₀ going₀ = let find = c.find-end.ensures in
    let here = searched _ (find.place, find.within (omega arith)) c.if-end-s.false c.read_line.ensures in
    line_passed (c.loop-at.invariant store₀ going₀) here c.in-Passed.is

pub offset_bounds-last-p : goal.offset_bounds-last-p
offset_bounds-last-p c = omega (arith, processor_in _ _ _ c.read_line.ensures _ c.in-Listed.is)

pub bounds-last-p : goal.bounds-last-p
bounds-last-p c = omega (arith, processor_in _ _ _ c.read_line.ensures _ c.in-Listed.is)

pub returns-then-time-last : goal.returns-then-time-last
returns-then-time-last c = let find = c.find-end.ensures in
    let here = searched _ (find.place, find.within (omega arith)) c.if-end-s.false c.read_line.ensures in
    line_backwards (c.loop-at.invariant _ c.lines-begun.ensures) here _ c.in-Listed.is _ (compared {x = c.in-Listed.r.time} {y = get_or c.loop-at.last c.in-Listed.r.processor (pos 0)} refl (to_z-of_z {w = w64} (search rules)) (to_z-of_z {w = w64} (search rules))) c.if-time-last.true

pub returns-then-most-listed : goal.returns-then-most-listed
returns-then-most-listed c = let find = c.find-end.ensures in
    let here = searched _ (find.place, find.within (omega arith)) c.if-end-s.false c.read_line.ensures in
    line_too_many (c.loop-at.invariant _ c.lines-begun.ensures) here _ c.in-Listed.is _ (compared {x = c.in-Listed.r.time} {y = get_or c.loop-at.last c.in-Listed.r.processor (pos 0)} refl (to_z-of_z {w = w64} (search rules)) (to_z-of_z {w = w64} (search rules))) c.if-time-last.false c.if-most-listed.true

pub offset_bounds-last-p-in-Listed : goal.offset_bounds-last-p-in-Listed
offset_bounds-last-p-in-Listed c = omega (arith, processor_in _ _ _ c.read_line.ensures _ c.in-Listed.is)

pub bounds-last-p-in-Listed : goal.bounds-last-p-in-Listed
bounds-last-p-in-Listed c = omega (arith, processor_in _ _ _ c.read_line.ensures _ c.in-Listed.is)

pub loop-at-preserved : goal.loop-at-preserved
loop-at-preserved c store₀ going₀ = let find = c.find-end.ensures in
    let here = searched _ (find.place, find.within (omega arith)) c.if-end-s.false c.read_line.ensures in
    line_listed (c.loop-at.invariant store₀ going₀) here _ c.in-Listed.is _ (compared {x = c.in-Listed.r.time} {y = get_or c.loop-at.last c.in-Listed.r.processor (pos 0)} refl (to_z-of_z {w = w64} (search rules)) (to_z-of_z {w = w64} (search rules))) c.if-time-last.false
    c.if-most-listed.false _ c.put.ensures c.put.auto.store _ (search rules)

pub returns : goal.returns
returns c = at_end (c.loop-at.invariant _ c.lines-begun.ensures) c.loop-at-test.false
