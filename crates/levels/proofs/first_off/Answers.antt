use mathlib.Core.Path.{sym, ◌∙◌}
use borrow.Author.Rules.{rules}
use Rattle.levels.proofs.Processors.{off_here, not_here, all_past}
use Rattle.levels.proofs.first_off.Goals as goal

pub returns-then-off : goal.returns-then-off
returns-then-off c = off_here _ _ _ c.requires c.loop-p-test.true c.off.ensures c.if-off.true c.site_at.ensures
    ∙ c.loop-p.invariant.1

pub loop-p-preserved : goal.loop-p-preserved
loop-p-preserved c = let here = not_here _ _ _ c.requires c.loop-p-test.true c.off.ensures c.if-off.false in
    (search rules, sym here ∙ c.loop-p.invariant.1)

pub returns : goal.returns
returns c = all_past _ _ _ c.requires c.loop-p-test.false ∙ c.loop-p.invariant.1
