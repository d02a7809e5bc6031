use mathlib.Core.Path.{sym, ◌∙◌}
use Rattle.chains.proofs.Search.{backward_less, backward_turns}
use Rattle.chains.proofs.prior_receive.Goals as goal

pub loop-p-smaller : goal.loop-p-smaller
loop-p-smaller c = let l = c.loop-p in
    backward_less _ _ _ _ c.requires l.p l.invariant c.loop-p-test.true

pub loop-p-preserved : goal.loop-p-preserved
loop-p-preserved c = let l = c.loop-p in
    backward_turns _ _ _ _ c.requires l.p l.invariant c.loop-p-test.true
    (sym c.receive_under.ensures ∙ c.if-receive_under.false)
