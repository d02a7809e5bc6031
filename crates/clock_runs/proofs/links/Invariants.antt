-- Each place is inside, and the one before it is there.
use Rattle.std.proofs.Common.{◌<◌}
use Rattle.clock_runs.proofs.links.Given as goal

abbrev pub invariant-loop-i : goal.invariant-loop-i
invariant-loop-i l = 0 < l.i
