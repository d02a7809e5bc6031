-- Of equally many, no sum reaches 2^64.
use Rattle.std.proofs.Common.{ap, ◌∙◌, arith, to_z-of_z}
use Rattle.statistics.specs.Totals.{since_least}
use Rattle.statistics.proofs.Tells.{given_fits}
use Rattle.statistics.proofs.tell.near.Goals as goal

pub overflow_add-given : goal.overflow_add-given
overflow_add-given c =
    let since = c.since_least.ensures ∙ ap since_least (to_z-of_z c.ranges.told) in
    record { fits = omega (arith, since, given_fits c.args.told c.requires.0 c.requires.1) }
