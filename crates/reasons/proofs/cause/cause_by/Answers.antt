use borrow.Author.Rules.{rules}
use Rattle.reasons.proofs.Causes.{other_record, record_before}
use Rattle.reasons.proofs.cause.cause_by.Goals as goal

pub returns-then-wait_at-j : goal.returns-then-wait_at-j
returns-then-wait_at-j c =
    other_record _ c.args.times.now c.args.before.now c.args.gap.now c.args.latency.now c.args.i c.args.j c.wait_at.ensures
    c.wait_at-wait.ensures (search rules)

pub returns : goal.returns
returns c =
    record_before _ c.args.times.now c.args.before.now c.args.gap.now c.args.latency.now c.args.i c.args.j c.wait_at.ensures
    c.wait_at-wait.ensures (search rules) c.gap_at-kept.ensures c.cause_behind.ensures
