use Rattle.ending.proofs.Copying.{kept, copied_in, unplaced}
use Rattle.ending.proofs.keep_times.Goals as goal
use Rattle.ending.proofs.keep_times.Goals.{else-number-eq0-via-then-number-eq0+else-new-times, else-number-eq0-via-else-number-eq0}

pub returns-then-new-times : goal.returns-then-new-times
returns-then-new-times c = copied_in _ _ _ c.if-number-eq0.true c.if-new-times.true c.copy_times.ensures

pub returns-else-number-eq0 : goal.returns-else-number-eq0
returns-else-number-eq0 c =
    elim c.else-number-eq0.branch [
      | else-number-eq0-via-then-number-eq0+else-new-times w ↦ unplaced _ _ _ w.if-number-eq0.true w.if-new-times.false
      | else-number-eq0-via-else-number-eq0 w ↦ kept _ _ _ w.if-number-eq0.false
    ]
