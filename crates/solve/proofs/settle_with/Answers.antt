use Rattle.solve.proofs.Engine.{engine_answers}
use Rattle.solve.proofs.settle_with.Goals as goal

pub returns : goal.returns
returns c = λ keep.
    engine_answers _ _ _ _ _ c.requires c.originals_into.ensures c.befores_into.ensures c.gaps_into.ensures c.latencies_into.ensures
    keep _ _ _ c.settle.ensures
