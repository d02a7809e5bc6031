use Rattle.merging.proofs.Steps.{rest_put_lem}
use Rattle.merging.proofs.weave.put_rest.Goals as goal

pub returns : goal.returns
returns c = let c₇ = c in
    rest_put_lem _ _ _ _ _ c₇.put.ensures c.put-2.ensures
