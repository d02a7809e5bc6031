use Rattle.std.proofs.Common.{sym, ◌∙◌}
use Rattle.statistics.proofs.Tallied.{backward_less, backward_turns}
use Rattle.statistics.proofs.total.last_under.Goals as goal

pub loop-p-smaller : goal.loop-p-smaller
loop-p-smaller c = let l = c.loop-p in
    backward_less _ _ _ _ c.requires l.p l.invariant c.loop-p-test.true

pub loop-p-preserved : goal.loop-p-preserved
loop-p-preserved c = let l = c.loop-p in
    backward_turns _ _ _ _ c.requires l.p l.invariant c.loop-p-test.true
    (sym c.is_under.ensures ∙ c.if-is_under.false)
