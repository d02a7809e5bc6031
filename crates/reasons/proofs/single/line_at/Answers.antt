use Rattle.reasons.proofs.Going.{line_told}
use Rattle.reasons.proofs.single.line_at.Goals as goal

pub returns : goal.returns
returns c =
    line_told _ c.args.times.now c.args.before.now c.args.gap.now c.args.latency.now _ _ c.stamped_at-stamped.ensures
    c.cause_of-cause.ensures c.step_line.ensures
