-- Pairs, or other data.
use mir.Facts.{to_z-of_z}
use Rattle.values.proofs.Either.{in_pairs, in_data}
use Rattle.quick.specs.Lines.{HoldsAt, DataAt, pairs_in}
use Rattle.quick.proofs.Takes.{as_described}
use Rattle.quick.proofs.body.some.Goals as goal

pub returns-then-n-eq0 : goal.returns-then-n-eq0
unfolding HoldsAt DataAt
returns-then-n-eq0 c = tt

pub returns-then-is_statistics : goal.returns-then-is_statistics
unfolding HoldsAt pairs_in
returns-then-is_statistics c = as_described _ _ _ _ _ (λ f. in_pairs (to_z-of_z c.ranges.kind) c.is_statistics.ensures _ f c.if-is_statistics.true) c.described.ensures

pub returns-else-is_statistics : goal.returns-else-is_statistics
unfolding HoldsAt
returns-else-is_statistics c = as_described _ _ _ _ _ (λ f. in_data (to_z-of_z c.ranges.kind) c.is_statistics.ensures _ f c.if-is_statistics.false) c.«data».ensures
