use mathlib.Core.Path.{sym, ◌∙◌}
use mir.Facts.{to_z-of_z}
use Rattle.line.proofs.Parts.{no_length, no_peer, good_message}
use Rattle.line.proofs.listed.three_noted.Goals as goal

pub returns-in_err-bytes : goal.returns-in_err-bytes
returns-in_err-bytes c = rw c.from_residual.ensures (no_length (to_z-of_z c.ranges.length) (to_z-of_z c.ranges.tag) (to_z-of_z c.ranges.peer) (sym c.size.ensures ∙ c.in_err-bytes.was))

pub returns-in_err-peer : goal.returns-in_err-peer
returns-in_err-peer c = rw c.from_residual-in_err-peer.ensures (no_peer (to_z-of_z c.ranges.length) (to_z-of_z c.ranges.tag) (to_z-of_z c.ranges.peer) _ (sym c.size.ensures ∙ c.in_ok-bytes.was) (sym c.up_to.ensures ∙ c.in_err-peer.was))

pub returns : goal.returns
returns c = good_message (to_z-of_z c.ranges.length) (to_z-of_z c.ranges.tag) (to_z-of_z c.ranges.peer) _ _ (sym c.size.ensures ∙ c.in_ok-bytes.was) (sym c.up_to.ensures ∙ c.in_ok-peer.was)
