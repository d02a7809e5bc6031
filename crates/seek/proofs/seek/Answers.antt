-- Here the work's arrays are as long as the paper's limit of records.
use Rattle.paper.specs.Answer.{most}
use Rattle.clearance.specs.Clearance.{given_of}
use Rattle.seek.proofs.Fitting.{sought}
use Rattle.seek.proofs.seek.Goals as goal

pub returns : goal.returns
unfolding most
returns c = sought (given_of c.args.trace.now c.args.latencies.now c.args.asked c.args.lent) _ _ _ _ _ _ _ c.places-before.ensures
    c.gaps-gap.ensures c.places-latency.ensures c.blanks-spare.ensures c.reach.ensures
