use Rattle.std.proofs.Common.{refl, rules}
use Rattle.store.specs.Layout.{entry_from}
use Rattle.store.proofs.Places.{through}
use Rattle.statistics.proofs.Since.{one_more}
use Rattle.statistics.proofs.total.with_record.Goals as goal

pub returns : goal.returns
returns c = one_more (entry_from _ _) _ c.since_least-time.ensures (through c.time_at.ensures (search rules)) c.length_in-length.ensures
    c.role_at.ensures refl refl
