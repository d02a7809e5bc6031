-- A time in range is not before what it is counted from.
use Rattle.statistics.proofs.Since.{sum_told}
use Rattle.statistics.proofs.total.since_least.Goals as goal

pub returns : goal.returns
returns c = sum_told c.ranges.time c.requires
