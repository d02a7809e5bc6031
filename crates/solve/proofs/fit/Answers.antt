use Prim.Native.Nat.{◌<◌}
use native.Mathlib.Omega.{arith}
use borrow.Author.Tests.{lt-ltb, le-ltb, le-leb, lt-leb}
use Rattle.solve.specs.Outcome.{fitting}
use Rattle.solve.proofs.fit.Goals as goal
use Rattle.solve.proofs.fit.Goals.{then-n-lt-TOO_MANY, else-n-lt-TOO_MANY}

pub returns-then-n-room : goal.returns-then-n-room
unfolding fitting
returns-then-n-room c = rw (lt-ltb _ _ c.if-n-room.true.0, le-leb _ _ c.if-n-room.true.1, c.all_are.ensures)

pub returns-else-n-room : goal.returns-else-n-room
unfolding fitting
returns-else-n-room c =
    elim c.if-n-lt-TOO_MANY.branch [
      | then-n-lt-TOO_MANY w ↦
          let narrow : c.args.room < c.args.n = omega (arith, c.if-n-room.either, w.if-n-lt-TOO_MANY.true) in
          rw (w.t-9-is, lt-ltb _ _ w.if-n-lt-TOO_MANY.true, lt-leb _ _ narrow)
      | else-n-lt-TOO_MANY w ↦ rw (w.t-9-is, le-ltb _ _ w.if-n-lt-TOO_MANY.false)
    ]
