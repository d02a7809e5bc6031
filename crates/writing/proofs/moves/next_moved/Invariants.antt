-- The records passed over did not move.
use mathlib.Core.Path.{◌≡◌}
use Rattle.writing.specs.Inner.{moves_at}
use Rattle.writing.proofs.moves.next_moved.Given as goal

abbrev pub invariant-loop-i : goal.invariant-loop-i
invariant-loop-i l = moves_at l.store l.times l.k ≡ moves_at l.store l.times l.i
