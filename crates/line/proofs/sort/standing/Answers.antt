use mathlib.Core.Path.{◌∙◌}
use mir.Facts.{to_z-of_z}
use Rattle.line.proofs.Sorts.{statistics, kind_listed, kind_unlisted}
use Rattle.line.proofs.sort.standing.Goals as goal

pub returns-then-is_statistics : goal.returns-then-is_statistics
returns-then-is_statistics c = statistics (to_z-of_z c.ranges.kind) (to_z-of_z c.ranges.event) c.listed_kind.ensures c.if-not-listed_kind.false c.is_statistics.ensures c.if-is_statistics.true

pub returns-else-is_statistics : goal.returns-else-is_statistics
returns-else-is_statistics c = c.standing.ensures
    ∙ kind_listed (to_z-of_z c.ranges.kind) (to_z-of_z c.ranges.event) c.listed_kind.ensures c.if-not-listed_kind.false c.is_statistics.ensures c.if-is_statistics.false

pub returns-then-not-listed_kind : goal.returns-then-not-listed_kind
returns-then-not-listed_kind c = kind_unlisted (to_z-of_z c.ranges.kind) (to_z-of_z c.ranges.event) c.listed_kind.ensures c.if-not-listed_kind.true
