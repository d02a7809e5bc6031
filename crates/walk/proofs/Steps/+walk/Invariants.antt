use Rattle.walk.proofs.Steps.+walk.Given as goal

-- the number of steps left
abbrev pub decreases-walk : goal.decreases-walk
decreases-walk l = l.left
