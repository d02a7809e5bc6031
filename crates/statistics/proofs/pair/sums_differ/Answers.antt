-- What the records under two keys come to decides.
use Rattle.std.proofs.Common.{to_z-of_z, rules}
use Rattle.store.proofs.Places.{through}
use Rattle.statistics.proofs.Since.{still_in_range}
use Rattle.statistics.proofs.Compared.{in_hand_comparable, in_hand_tell}
use Rattle.statistics.proofs.pair.sums_differ.Goals as goal

pub tells_other-requires : goal.tells_other-requires
tells_other-requires c = let c₃ = c in
    let c₅ = c₃ in
    let pre = c₅.requires in
    let fits = c₅.ranges in (
      still_in_range (to_z-of_z fits.told) pre.0,
      in_hand_comparable _ _ _ pre.1.tallied.some pre.1.tallied.few pre.1.held _ c₅.args.told pre.0 (through c₅.kind_at-kind.ensures (search rules)) (to_z-of_z fits.event)
          c₃.processor_at-processor.ensures.is (through c₃.first_kind.ensures (search rules)) (through c.second_kind.ensures (search rules))
          c.total_of-first.ensures c.total_of-second.ensures,
    )

pub returns : goal.returns
returns c = let c₄ = c in
    let c₆ = c₄ in
    let pre = c₆.requires in
    let fits = c₆.ranges in
    in_hand_tell _ _ _ pre.1.tallied.some pre.1.tallied.few pre.1.held _ _ pre.0 (through c₆.kind_at-kind.ensures (search rules)) (to_z-of_z fits.event)
    c₄.processor_at-processor.ensures.is (through c₄.first_kind.ensures (search rules)) (through c.second_kind.ensures (search rules))
    c.total_of-first.ensures c.total_of-second.ensures (to_z-of_z fits.told) c.tells_other.ensures
