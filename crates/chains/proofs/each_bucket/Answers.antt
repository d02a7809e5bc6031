use Rattle.chains.proofs.Chain.{filled_with}
use Rattle.chains.proofs.each_bucket.Goals as goal

pub returns : goal.returns
returns c = filled_with c.args.v
