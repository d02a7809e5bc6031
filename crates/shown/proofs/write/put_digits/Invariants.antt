-- The loop's invariant: the digits still to be stored, put into the room as it is, give the whole answer.
use mathlib.Core.Path.{◌≡◌}
use lib.Seq.{sets}
use Rattle.paper.specs.Forms.{fixed}
use Rattle.shown.proofs.write.put_digits.Given as goal

abbrev pub invariant-loop-i : goal.invariant-loop-i
invariant-loop-i l = sets l.initial.room l.at (fixed l.k l.n) ≡ sets l.room l.at (fixed l.i l.rest)
