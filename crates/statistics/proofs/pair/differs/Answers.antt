use Rattle.std.proofs.Common.{◌∙◌, to_z-of_z}
use Rattle.statistics.proofs.Compared.{listed_pair, other_pair}
use Rattle.statistics.proofs.pair.differs.Goals as goal

pub returns-then-is_listed : goal.returns-then-is_listed
returns-then-is_listed c = listed_pair _ _ _ _ _ (to_z-of_z c.ranges.event) c.is_listed.ensures c.if-is_listed.true (to_z-of_z c.ranges.told) c.sums_differ.ensures

pub returns-else-is_listed : goal.returns-else-is_listed
returns-else-is_listed c = c.if-is_listed.false ∙ other_pair _ _ _ _ _ (to_z-of_z c.ranges.event) c.is_listed.ensures c.if-is_listed.false
