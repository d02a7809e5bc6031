use mathlib.Core.Path.{refl}
use mir.Syntax.{w64}
use lib.IntN.{pos}
use native.Mathlib.Omega.{arith}
use borrow.Author.Rules.{rules}
use lib.ListN.{get_or}
use mir.Facts.{to_z-of_z}
use Rattle.trace.proofs.Going.{going_start, answered, shorter, compared, processor_in, line_passed, line_listed}
use Rattle.trace.proofs.ahead.lines.Goals as goal

pub loop-at-init : goal.loop-at-init
loop-at-init c = rw c.requires.1 (going_start _ _ _ _ c.requires.0)

pub loop-at-smaller-in-Passed : goal.loop-at-smaller-in-Passed
loop-at-smaller-in-Passed c = shorter (answered c.quick_line.ensures c.in-Some.is)

pub loop-at-preserved-in-Passed : goal.loop-at-preserved-in-Passed
loop-at-preserved-in-Passed c = let here = answered c.quick_line.ensures c.in-Some.is in
    line_passed c.loop-at.invariant here c.in-Passed.is

pub offset_bounds-last-p : goal.offset_bounds-last-p
offset_bounds-last-p c = let here = answered c.quick_line.ensures c.in-Some.is in
    omega (arith, processor_in _ _ _ here.reads _ c.in-Listed.is)

pub bounds-last-p : goal.bounds-last-p
bounds-last-p c = let here = answered c.quick_line.ensures c.in-Some.is in
    omega (arith, processor_in _ _ _ here.reads _ c.in-Listed.is)

pub offset_bounds-last-p-in-Listed : goal.offset_bounds-last-p-in-Listed
offset_bounds-last-p-in-Listed c = let here = answered c.quick_line.ensures c.in-Some.is in
    omega (arith, processor_in _ _ _ here.reads _ c.in-Listed.is)

pub bounds-last-p-in-Listed : goal.bounds-last-p-in-Listed
bounds-last-p-in-Listed c = let here = answered c.quick_line.ensures c.in-Some.is in
    omega (arith, processor_in _ _ _ here.reads _ c.in-Listed.is)

pub loop-at-smaller : goal.loop-at-smaller
loop-at-smaller c = shorter (answered c.quick_line.ensures c.in-Some.is)

pub loop-at-preserved : goal.loop-at-preserved
loop-at-preserved c = let here = answered c.quick_line.ensures c.in-Some.is in
    line_listed c.loop-at.invariant here _ c.in-Listed.is _ (compared {x = c.in-Listed.r.time} {y = get_or c.loop-at.last c.in-Listed.r.processor (pos 0)} refl (to_z-of_z {w = w64} (search rules)) (to_z-of_z {w = w64} (search rules))) c.if-time-last.false c.if-most-listed.false _ c.put.ensures c.put.auto.store _ (search rules)
