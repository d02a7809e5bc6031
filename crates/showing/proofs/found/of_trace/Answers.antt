use borrow.Author.Rules.{rules}
use Rattle.paper.specs.Answer.{most}
use Rattle.paper.specs.Filling.{query, judged, most_lent}
use Rattle.seek.specs.Sought.{Sought}
use Rattle.showing.specs.Inner.{ConcludedBy}
use Rattle.chain.proofs.Concluding.{with_places}
use Rattle.showing.proofs.found.of_trace.Goals as goal

pub concluded-requires : goal.concluded-requires
unfolding most judged most_lent Sought
concluded-requires c = let says = c.seek-reached.ensures c.empty-store.ensures c.places-sends.ensures c.blanks-new.ensures in
    (with_places (query c.args.trace.now c.args.latencies.now c.args.asked) _ _ _ _ says (search rules) (search rules), c.requires)

pub returns : goal.returns
unfolding most judged most_lent Sought ConcludedBy
returns c = let says = c.seek-reached.ensures c.empty-store.ensures c.places-sends.ensures c.blanks-new.ensures in
    c.concluded.ensures says
