use mathlib.Core.Path.{sym, ◌∙◌}
use Rattle.chains.proofs.Search.{forward_turns}
use Rattle.chains.proofs.next_send.Goals as goal

pub loop-s-preserved : goal.loop-s-preserved
loop-s-preserved c = let l = c.loop-s in
    forward_turns _ _ _ _ c.requires l.s l.invariant c.loop-s-test.true
    (sym c.send_under.ensures ∙ c.if-send_under.false)
