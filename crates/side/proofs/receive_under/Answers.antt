-- The record's side decides.
use mathlib.Core.Path.{◌∙◌}
use Rattle.side.proofs.Keys.{keys_told}
use Rattle.side.proofs.Sides.{receive_by, not_receive_by}
use Rattle.side.proofs.receive_under.Goals as goal

pub returns-in-Receives : goal.returns-in-Receives
returns-in-Receives c = c.eq.ensures ∙ keys_told c.args.key c.in-Receives.k ∙ receive_by _ _ _ c.side_at.ensures c.in-Receives.is

pub returns-in-Neither : goal.returns-in-Neither
returns-in-Neither c = not_receive_by _ _ _ c.side_at.ensures c.in-Neither.is
