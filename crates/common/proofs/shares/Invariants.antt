use Rattle.common.proofs.Tables.{Telling}
use Rattle.common.proofs.shares.Given as goal

abbrev pub invariant-loop-i : goal.invariant-loop-i
invariant-loop-i l = Telling l.store l.listed l.i l.other
