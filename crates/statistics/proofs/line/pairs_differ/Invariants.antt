-- The pairs that are left, with what was found before them, come to what all come to.
use Rattle.std.proofs.Common.{◌-◌, length}
use Rattle.paper.specs.Line.{pairs_of}
use Rattle.field.specs.Cursor.{rest_at, read_as}
use Rattle.statistics.proofs.Pairs.{Left}
use Rattle.statistics.proofs.line.pairs_differ.Given as goal

abbrev pub invariant-loop : goal.invariant-loop
invariant-loop l = Left l.sums.store.now (length l.sums.link.now) l.i (read_as l.form) (pairs_of (read_as l.form) 7 l.n (rest_at l.l l.at)) l.found (l.n - l.counter) (rest_at l.l l.p)
