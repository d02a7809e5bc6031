-- the trace is written where it is wanted, and the rest goes by that.
use Rattle.judge.proofs.Concluding.{finished_wanted, finished_unasked}
use Rattle.judge.proofs.conclude.finish.Goals as goal
use Rattle.judge.proofs.conclude.finish.Goals.{then-wanted, else-wanted}

pub returns : goal.returns
returns c =
    elim c.if-wanted.branch [
      | then-wanted w ↦
          finished_wanted _ _ _ _ _ _ w.if-wanted.true c.if-wanted.done (rw (w.done-is, w.room-is) w.write_trace-done.ensures) c.answered.ensures
      | else-wanted w ↦ rw w.room-is (finished_unasked _ _ _ _ _ _ w.if-wanted.false (rw w.done-is at c.answered.ensures))
    ]
