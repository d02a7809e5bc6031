-- The counts, record by record.
use mathlib.Core.Path.{◌≡◌}
use native.Mathlib.Omega.{arith}
use Rattle.message.proofs.Counts.{none_counted, one_received, one_sent, one_passed, all_counted}
use Rattle.message.proofs.counted.Goals as goal
use Rattle.message.proofs.counted.Goals.{in-Receive, in-Send, in-Neither}

pub loop-i-init : goal.loop-i-init
loop-i-init c = none_counted c.args.store.now

pub loop-i-preserved : goal.loop-i-preserved
loop-i-preserved c =
    elim c.match-role_at.branch [
      | in-Receive w ↦ rw (w.received-is, w.sent-is) (one_received c.loop-i.invariant c.role_at.ensures _ w.in-Receive.is)
      | in-Send w ↦ rw (w.received-is, w.sent-is) (one_sent c.loop-i.invariant c.role_at.ensures _ w.in-Send.is)
      | in-Neither w ↦ rw (w.received-is, w.sent-is) (one_passed c.loop-i.invariant c.role_at.ensures w.in-Neither.is)
    ]

pub returns : goal.returns
returns c =
    let all : c.loop-i.i ≡ c.args.n = omega arith in
    rw c.saturating_sub.ensures (all_counted _ c.args.n (rw all at c.loop-i.invariant))
