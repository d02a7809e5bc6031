-- Here the arrays' lengths are the paper's limit of records.
use mathlib.Core.Path.{refl}
use Rattle.paper.specs.Answer.{most}
use Rattle.paper.specs.Filling.{query, judged, most_lent}
use Rattle.seek.specs.Sought.{Sought}
use Rattle.chain.proofs.Concluding.{with_places}
use Rattle.chain.proofs.chain.Goals as goal

pub conclude-requires : goal.conclude-requires
unfolding most judged most_lent Sought
conclude-requires c = let seek = c in
    let arrays = seek in
    let a = arrays.args in
    let says = seek.seek-reached.ensures arrays.empty-store.ensures arrays.places-sends.ensures arrays.blanks-times.ensures in
    with_places (query a.trace.now a.latencies.now a.asked) _ _ _ _ says c.sends-2-1.given
    c.times-2-1.given

pub returns : goal.returns
unfolding most judged most_lent Sought
returns c = let seek = c in
    let arrays = seek in
    let says = seek.seek-reached.ensures arrays.empty-store.ensures arrays.places-sends.ensures arrays.blanks-times.ensures in
    c.conclude.ensures.gives _ _ refl says
