use native.Mathlib.Omega.{arith}
use mathlib.Core.Path.{◌≡◌}
use borrow.Author.Tests.{ne_eqb}
use Rattle.reach.proofs.Fitting.{other_room, other_times, all_lengths}
use Rattle.reach.proofs.fit.Goals as goal
use Rattle.reach.proofs.fit.Goals.{then-room-n, else-room-n}

pub returns-then-times-room : goal.returns-then-times-room
returns-then-times-room c = all_lengths _ _ _ _ c.if-times-room.true.0 c.if-times-room.true.1 c.all_are.ensures

pub returns-else-times-room : goal.returns-else-times-room
returns-else-times-room c =
    elim c.if-room-n.branch [
      | then-room-n w ↦
          let other : c.args.times ≡ c.args.room → ⊥ = λ e. omega (arith, c.if-times-room.either, w.if-room-n.true) in
          rw (w.t-10-is, ne_eqb _ _ other) (other_times _ _ _ _ w.if-room-n.true other)
      | else-room-n w ↦ rw (w.t-10-is, ne_eqb _ _ w.if-room-n.false) (other_room _ _ _ _ w.if-room-n.false)
    ]
