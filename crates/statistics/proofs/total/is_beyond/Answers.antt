-- The code of a time is low exactly if the format holds it.
use Rattle.std.proofs.Common.{rules}
use Rattle.store.specs.Layout.{entry_from}
use Rattle.store.proofs.Places.{through}
use Rattle.statistics.proofs.Beyond.{time_beyond, length_decides}
use Rattle.statistics.proofs.total.is_beyond.Goals as goal

pub returns-then-code-gt1999999999999998 : goal.returns-then-code-gt1999999999999998
returns-then-code-gt1999999999999998 c = time_beyond (entry_from _ _) (through c.time_at.ensures (search rules)) c.code.ensures c.if-code-gt1999999999999998.true

pub returns-else-code-gt1999999999999998 : goal.returns-else-code-gt1999999999999998
returns-else-code-gt1999999999999998 c =
    length_decides (entry_from _ _) (through c.time_at.ensures (search rules)) c.code.ensures c.role_at.ensures c.length_in.ensures c.if-code-gt1999999999999998.false
