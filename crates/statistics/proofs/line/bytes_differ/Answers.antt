-- The six fields, and the pairs behind them.
use Rattle.std.proofs.Common.{◌≡◌, w64, to_z, of_z, rules}
use Rattle.statistics.proofs.Pairs.{no_head, with_head}
use Rattle.statistics.proofs.line.bytes_differ.Goals as goal

pub returns-in_default : goal.returns-in_default
returns-in_default c = no_head _ _ _ _ _ c.read_head.ensures _ _ c.in_default.is

pub returns : goal.returns
returns c = let kind = c.in-Ok.h.kind in
    let same : to_z w64 (of_z w64 kind) ≡ kind = search rules in
    with_head _ _ _ _ _ c.read_head.ensures _ _ c.in-Ok.is same c.data_differ.ensures
