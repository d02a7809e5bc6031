use Rattle.chain.proofs.Called.{stepped}
use Rattle.chain.proofs.exact.Records.steps_into.Goals as goal

pub returns : goal.returns
returns c = let c₇ = c in
    let c₁₂ = c₇ in
    let c₁₆ = c₁₂ in
    let c₁₉ = c₁₆ in
    let start = c₁₉ in
    stepped _ _ _ _ _ start.requires c₁₉.originals_into.ensures c₁₆.latencies_into.ensures c₁₂.processor_steps.ensures
    c₇.keep_exact.ensures c.end_ranks.ensures
