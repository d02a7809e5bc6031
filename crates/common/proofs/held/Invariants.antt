use Rattle.common.proofs.Tables.{Going}
use Rattle.common.proofs.held.Given as goal

abbrev pub invariant-loop-i : goal.invariant-loop-i
invariant-loop-i l = Going l.store l.listed l.i l.seen
