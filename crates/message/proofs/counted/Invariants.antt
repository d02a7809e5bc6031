-- The invariant: so many of the first i records are receives, and so many sends.
use Rattle.message.proofs.Counts.{Counted}
use Rattle.message.proofs.counted.Given as goal

abbrev pub invariant-loop-i : goal.invariant-loop-i
invariant-loop-i l = Counted l.store l.i l.received l.sent
