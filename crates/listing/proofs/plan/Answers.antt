-- Here the arrays' lengths are the paper's limit of records, and twice that.
use native.Mathlib.Omega.{arith}
use Rattle.paper.specs.Answer.{most}
use Rattle.paper.specs.Filling.{query, judged, most_lent}
use Rattle.seek.specs.Sought.{Sought}
use Rattle.listing.specs.Plan.{ConcludedBy}
use Rattle.listing.proofs.Concluding.{with_sends}
use Rattle.listing.proofs.plan.Goals as goal

pub conclude-requires : goal.conclude-requires
unfolding most judged most_lent Sought
conclude-requires c =
    let says = c.seek-reached.ensures c.empty-store.ensures c.places-sends.ensures c.blanks-new.ensures in
    with_sends (query c.args.trace.now c.args.latencies.now c.args.asked) _ _ _ _ says

pub returns : goal.returns
unfolding most judged most_lent Sought ConcludedBy
returns c =
    let says = c.seek-reached.ensures c.empty-store.ensures c.places-sends.ensures c.blanks-new.ensures in
    c.conclude.ensures (query c.args.trace.now c.args.latencies.now c.args.asked) _ _ (omega arith) says
