-- Here the arrays' length is the paper's limit of records.
use borrow.Author.Rules.{rules}
use Rattle.paper.specs.Answer.{most}
use Rattle.seek.specs.Sought.{Sought}
use Rattle.judge.specs.Call.{inputs, ConcludedBy}
use Rattle.judge.proofs.Concluding.{with_places}
use Rattle.judge.proofs.judge.Goals as goal

pub conclude-requires : goal.conclude-requires
unfolding most Sought
conclude-requires c = let seek = c in
    let arrays = seek in
    let a = arrays.args in
    let says = seek.seek-reached.ensures arrays.empty-store.ensures arrays.places-sends.ensures arrays.blanks-new.ensures in
    with_places (inputs a.trace.now a.latencies.now a.asked a.times.now a.wanted a.room.now) _ _ _ _ says (search rules)

pub returns : goal.returns
unfolding most Sought ConcludedBy
returns c = let seek = c in
    let arrays = seek in
    let a = arrays.args in
    let says = seek.seek-reached.ensures arrays.empty-store.ensures arrays.places-sends.ensures arrays.blanks-new.ensures in
    c.conclude.ensures a.latencies.now a.asked _ says
