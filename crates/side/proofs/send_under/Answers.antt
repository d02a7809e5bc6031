-- The record's side decides.
use mathlib.Core.Path.{◌∙◌}
use Rattle.side.proofs.Keys.{keys_told}
use Rattle.side.proofs.Sides.{send_by, not_send_by}
use Rattle.side.proofs.send_under.Goals as goal

pub returns-in-Sends : goal.returns-in-Sends
returns-in-Sends c = c.eq.ensures ∙ keys_told c.args.key c.in-Sends.k ∙ send_by _ _ _ c.side_at.ensures c.in-Sends.is

pub returns-in-Neither : goal.returns-in-Neither
returns-in-Neither c = not_send_by _ _ _ c.side_at.ensures c.in-Neither.is
