-- The record is put in front of its bucket, with its totals.
use Rattle.store.proofs.Places.{through}
use Rattle.statistics.proofs.Tallied.{place_fits, few_before, added}
use Rattle.std.proofs.Common.{rules}
use Rattle.statistics.proofs.tally.add.Goals as goal

pub with_record-all-requires : goal.with_record-all-requires
with_record-all-requires c = let pre = c.requires in
    (pre.1, few_before pre.0 pre.2 c.key_at-key.ensures c.total_of-before.ensures)

pub overflow_cast-behind : goal.overflow_cast-behind
overflow_cast-behind c = let pre = c.requires in place_fits pre.0 pre.2

pub returns : goal.returns
returns c = let c₅ = c in
    let pre = c₅.requires in
    added pre.0 pre.2 c₅.key_at-key.ensures c₅.total_of-before.ensures c.bucket_of-b.ensures.is
    c.with_record-all.ensures (through c.from_code.ensures (search rules)) (through c.from_code-2.ensures (search rules))
