-- The sends are chained, then placed, and the links cleared.
use Rattle.chains.proofs.Outcomes.{links_differ, too_many_lem, not_found, all_found}
use Rattle.chains.proofs.find_sends.Goals as goal
use Rattle.chains.proofs.find_sends.Goals.{then-link-sends-via-then-link-sends, then-link-sends-via-else-link-sends+then-sends-ge-TOO_MANY}

pub returns-then-link-sends : goal.returns-then-link-sends
returns-then-link-sends c =
    elim c.then-link-sends.branch [
      | then-link-sends-via-then-link-sends w ↦ not_found _ _ _ (links_differ _ _ w.if-link-sends.true)
      | then-link-sends-via-else-link-sends+then-sends-ge-TOO_MANY w ↦ not_found _ _ _ (too_many_lem _ _ w.if-link-sends.false w.if-sends-ge-TOO_MANY.true)
    ]

pub returns : goal.returns
returns c = all_found _ _ _ c.if-link-sends.false c.if-sends-ge-TOO_MANY.false c.place_sends.ensures c.clear.ensures
