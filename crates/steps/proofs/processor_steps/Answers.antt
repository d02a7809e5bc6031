use native.Mathlib.Omega.{arith}
use mathlib.Core.Path.{sym, ◌∙◌}
use Rattle.waits.proofs.Filling.{fill_none, fill_more, fill_whole}
use Rattle.waits.proofs.Last.{last_none, last_before, last_more}
use Rattle.steps.proofs.Before.{steps_table, step_here, steps_few, steps_kept, steps_high}
use Rattle.steps.proofs.processor_steps.Goals as goal
use Rattle.steps.proofs.processor_steps.Goals.{then-out-ge-TOO_MANY-via-then-out-ge-TOO_MANY, then-out-ge-TOO_MANY-via-else-out-ge-TOO_MANY+then-share-gt1000}

pub returns-then-out-ge-TOO_MANY : goal.returns-then-out-ge-TOO_MANY
returns-then-out-ge-TOO_MANY c =
    elim c.then-out-ge-TOO_MANY.branch [
      | then-out-ge-TOO_MANY-via-then-out-ge-TOO_MANY w ↦ sym (steps_kept _ _ _ _ w.if-out-ge-TOO_MANY.true)
      | then-out-ge-TOO_MANY-via-else-out-ge-TOO_MANY+then-share-gt1000 w ↦ sym (steps_high _ _ _ _ w.if-out-ge-TOO_MANY.false w.if-share-gt1000.true)
    ]

pub loop-i-init : goal.loop-i-init
loop-i-init c = (fill_none _ _ _, rw c.for_each-last.ensures (last_none _ _))

pub loop-i-preserved : goal.loop-i-preserved
loop-i-preserved c = let at = c.loop-i in
    let i< = c.loop-i-test.true in
    let on = c.processor_at-p.ensures in
    let gap = c.gap_at-gap.ensures c.if-share-gt1000.false i< in (
      fill_more _ _ at.invariant.0 _ (omega (arith, at.invariant.0.size, i<))
          (step_here _ _ _ _ at.i i< (last_before _ _ at.invariant.1 i< on) gap c.exact_at.ensures),
      last_more _ _ at.invariant.1 i< on,
    )

pub returns : goal.returns
returns c = fill_whole _ _ c.loop-i.invariant.0 (omega (arith, c.loop-i.invariant.0.size, c.loop-i-test.false)) ∙ steps_table _ _ _ _
    ∙ sym (steps_few _ _ _ _ c.if-out-ge-TOO_MANY.false c.if-share-gt1000.false)
