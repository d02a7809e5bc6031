-- The places are found, and answered for.
use Rattle.chains.proofs.Outcomes.{links_differ, too_many_lem, they_fit}
use Rattle.message.proofs.Outcomes.{misfit_places, misfit_store, found_self, fits}
use Rattle.message.proofs.match_messages.Goals as goal
use Rattle.message.proofs.match_messages.Goals.{then-link-sends-via-then-link-sends, then-link-sends-via-else-link-sends+then-sends-ge-TOO_MANY, then-link-sends-via-else-link-sends+else-sends-ge-TOO_MANY+then-capacity-sends}

pub returns-then-link-sends : goal.returns-then-link-sends
returns-then-link-sends c =
    elim c.then-link-sends.branch [
      | then-link-sends-via-then-link-sends w ↦ misfit_places _ _ _ (links_differ _ _ w.if-link-sends.true)
      | then-link-sends-via-else-link-sends+then-sends-ge-TOO_MANY w ↦ misfit_places _ _ _ (too_many_lem _ _ w.if-link-sends.false w.if-sends-ge-TOO_MANY.true)
      | then-link-sends-via-else-link-sends+else-sends-ge-TOO_MANY+then-capacity-sends w ↦
          misfit_store _ _ _ (they_fit _ _ w.if-link-sends.false w.if-sends-ge-TOO_MANY.false) (rw (← w.capacity.ensures) w.if-capacity-sends.true)
    ]

pub answered-requires : goal.answered-requires
answered-requires c = found_self _ _ _ (they_fit _ _ c.if-link-sends.false c.if-sends-ge-TOO_MANY.false) _ c.find_sends.ensures

pub returns : goal.returns
returns c = fits _ _ _ (they_fit _ _ c.if-link-sends.false c.if-sends-ge-TOO_MANY.false) _ c.find_sends.ensures (rw (← c.capacity.ensures) c.if-capacity-sends.false) c.answered.ensures
