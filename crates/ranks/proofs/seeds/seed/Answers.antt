use Rattle.ranks.proofs.Sowing.{seed_none, seed_more}
use Rattle.ranks.proofs.seeds.seed.Goals as goal

pub loop-i-init : goal.loop-i-init
loop-i-init c = let pre = c.requires in seed_none _ _ pre.all_b

pub loop-i-preserved : goal.loop-i-preserved
loop-i-preserved c = seed_more _ _ c.loop-i.invariant c.loop-i-test.true c.sow-tail.ensures
