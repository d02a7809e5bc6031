use native.Mathlib.Omega.{arith}
use mathlib.Core.Path.{◌∙◌}
use mir.Facts.{to_z-of_z}
use Rattle.values.proofs.Either.{no_data, some_data, too_many_lem, in_pairs, in_data}
use Rattle.values.proofs.read.Goals as goal

pub returns-then-l-at : goal.returns-then-l-at
returns-then-l-at c = no_data _ _ _ _ c.if-n-eq0.true c.if-l-at.true

pub returns-else-l-at : goal.returns-else-l-at
returns-else-l-at c = some_data _ _ _ _ c.if-n-eq0.true c.if-l-at.false

pub returns-then-n-gt16 : goal.returns-then-n-gt16
returns-then-n-gt16 c = too_many_lem _ _ _ (omega (arith, c.if-n-gt16.true))

pub returns-then-is_statistics : goal.returns-then-is_statistics
returns-then-is_statistics c = c.read.ensures ∙ in_pairs (to_z-of_z c.ranges.kind) c.is_statistics.ensures _ _ c.if-is_statistics.true

pub returns-else-is_statistics : goal.returns-else-is_statistics
returns-else-is_statistics c = c.«data».ensures ∙ in_data (to_z-of_z c.ranges.kind) c.is_statistics.ensures _ _ c.if-is_statistics.false
