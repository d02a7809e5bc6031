use Rattle.lookup.proofs.Place.{Going}
use Rattle.lookup.proofs.place_from.Given as goal

abbrev pub invariant-loop-i : goal.invariant-loop-i
invariant-loop-i l = Going l.store l.listed l.line l.i
