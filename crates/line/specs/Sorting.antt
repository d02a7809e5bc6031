-- What the code's words for a message and a role mean, and where an event counts.
use Rattle.std.specs.Prelude.{cond, ℤ, Option, Some, None}
use Rattle.paper.specs.Events.{listed_kind, standing_for}
use Rattle.paper.specs.declared.Message.{Message}
use Rattle.paper.specs.declared.Role.{Role}
use Rattle.paper.specs.declared.Standing.{Standing}

-- the standing in a record type that is listed, or unlisted
unfoldable pub standing_in : ℤ → ℤ → Standing
standing_in kind event = cond (listed_kind kind) (standing_for kind event) Standing.Unlisted
