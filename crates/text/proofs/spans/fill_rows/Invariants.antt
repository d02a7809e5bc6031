-- The loop's invariant: the rows up to s are filled.
use Rattle.text.specs.Held.{RowsFilled}
use Rattle.text.proofs.spans.fill_rows.Given as goal

abbrev pub invariant-loop-s : goal.invariant-loop-s
invariant-loop-s l = RowsFilled l.fn.senders.from l.s l.receivers.from l.receivers.to l.n l.initial.latencies l.latencies
