use lib.ListN.{length}
use Rattle.showing.proofs.Telling.{chain_told}
use Rattle.showing.proofs.chained.put_chain.Goals as goal

pub returns : goal.returns
returns c = chain_told _ _ _ c.args.times.now _ (length c.args.times.now) c.befores-before.result c.gaps-gap.result
    c.latencies_of-latency.result c.befores-before.ensures c.gaps-gap.ensures c.latencies_of-latency.ensures c.requires.1 c.requires.2
    c.put_reasons.ensures
