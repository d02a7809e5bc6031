-- Here the code's number is the paper's limit of records, which is one that times are summed of.
use native.Mathlib.Omega.{arith}
use mathlib.Core.Path.{refl}
use Rattle.std.proofs.lemmas.Result.{err_from_is_err_and}
use Rattle.paper.specs.Answer.{most}
use Rattle.paper.specs.Statistics.{summed}
use Rattle.clearance.specs.Clearance.{given_of}
use Rattle.clearance.proofs.Clearing.{cleared_refused, cleared_reads}
use Rattle.reach.specs.Reach.{reaches}
use Rattle.reach.proofs.Fitting.{unfit, sized, answered, read_on}
use Rattle.reach.proofs.reach.Goals as goal

pub returns-then-not-fit : goal.returns-then-not-fit
unfolding most
returns-then-not-fit c = unfit (given_of c.args.trace.now c.args.latencies.now c.args.asked c.args.places) c.args.store.now c.args.sends.now c.args.before.now c.args.gap.now c.args.latency.now c.args.times.now c.args.spare.now c.capacity.ensures c.fit.ensures c.if-not-fit.true _ _ _

pub read-requires-clause-trace_len_bound : goal.read-requires-clause-trace_len_bound
read-requires-clause-trace_len_bound c = let reads = cleared_reads (given_of c.args.trace.now c.args.latencies.now c.args.asked c.args.places) _ c.check.ensures c.in_ok-choice.was in
    (reads.short, reads.share)

pub read-requires-clause-sized : goal.read-requires-clause-sized
unfolding most summed
read-requires-clause-sized c = sized (given_of c.args.trace.now c.args.latencies.now c.args.asked c.args.places) c.args.store.now c.args.sends.now c.args.before.now c.args.gap.now c.args.latency.now c.args.times.now c.args.spare.now c.capacity.ensures c.fit.ensures c.if-not-fit.false (omega arith)

pub returns-in_err-choice : goal.returns-in_err-choice
unfolding most reaches
returns-in_err-choice c = let p = err_from_is_err_and c.from_residual.result c.from_residual.ensures.1 in
    rw (p.1, p.2) (answered (given_of c.args.trace.now c.args.latencies.now c.args.asked c.args.places) c.args.store.now c.args.sends.now c.args.before.now c.args.gap.now c.args.latency.now c.args.times.now c.args.spare.now c.capacity.ensures c.fit.ensures c.if-not-fit.false _ _ _ _ (cleared_refused (given_of c.args.trace.now c.args.latencies.now c.args.asked c.args.places) _ c.check.ensures c.in_err-choice.was refl))

pub returns : goal.returns
unfolding most
returns c = let reads = cleared_reads (given_of c.args.trace.now c.args.latencies.now c.args.asked c.args.places) _ c.check.ensures c.in_ok-choice.was in
    read_on (given_of c.args.trace.now c.args.latencies.now c.args.asked c.args.places) c.args.store.now c.args.sends.now c.args.before.now c.args.gap.now c.args.latency.now c.args.times.now c.args.spare.now c.capacity.ensures c.fit.ensures c.if-not-fit.false _ reads.is _ _ _ _ c.read.ensures
