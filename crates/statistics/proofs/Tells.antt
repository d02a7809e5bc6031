-- One pair beside numbers, as the code asks.
use Rattle.std.proofs.Common.{◌≡◌, ◌+◌, ◌*◌, ◌^◌, ◌<◌, Bool, true, false, ◌||◌, ℤ, refl, arith}
use Rattle.reading.specs.Tidy.{InRange}
use Rattle.statistics.specs.Totals.{since_least}
use Rattle.statistics.specs.declared.total.Total.{Total}
use Rattle.statistics.proofs.Since.{since_low}
use Rattle.statistics.specs.Tells.{Fair}

pub given_fits : (told : ℤ) {entries exits : Total} → InRange told → Fair entries exits → since_least told + entries.times < 2 ^ 64
given_fits told range fair = omega (arith, since_low told range, fair.few, fair.low_entries)

-- with room for more than is asked
pub due_fits : {entries exits : Total} → Fair entries exits → 1000000000000000 + exits.times + 2 * entries.count < 2 ^ 64
due_fits fair = omega (arith, fair.few, fair.low_exits)

pub or_false : (t : Bool) → t ≡ (t || false)
or_false true = refl
or_false false = refl
