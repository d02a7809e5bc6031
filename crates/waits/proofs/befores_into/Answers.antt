use Prim.Native.Nat.{◌<◌}
use mathlib.Core.Path.{sym, ◌∙◌}
use native.Mathlib.Omega.{arith}
use lib.ListN.{length}
use Rattle.waits.specs.Tables.{befores_of}
use Rattle.waits.proofs.Outcomes.{befores_few, befores_kept}
use Rattle.waits.proofs.Filling.{fill_none, fill_next, fill_all}
use Rattle.waits.proofs.Last.{last_none, last_before, last_more}
use Rattle.waits.proofs.befores_into.Goals as goal

pub returns-then-out-ge-TOO_MANY : goal.returns-then-out-ge-TOO_MANY
returns-then-out-ge-TOO_MANY c = sym (befores_kept _ _ c.if-out-ge-TOO_MANY.true)

pub loop-i-init : goal.loop-i-init
loop-i-init c = (fill_none _ _ _, rw c.for_each-last.ensures (last_none _ _))

pub loop-i-preserved : goal.loop-i-preserved
loop-i-preserved c = let at = c.loop-i in
    let i< : at.i < length c.args.out.now = omega arith in
    let on = c.processor_at-p.ensures in
    (fill_next _ _ at.invariant.0 _ c.loop-i-test.true (last_before _ _ at.invariant.1 i< on), last_more _ _ at.invariant.1 i< on)

pub returns : goal.returns
unfolding befores_of
returns c = fill_all _ _ c.loop-i.invariant.0 _ c.loop-i-test.false
    ∙ sym (befores_few _ _ c.if-out-ge-TOO_MANY.false)
