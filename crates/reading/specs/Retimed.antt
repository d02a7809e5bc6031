-- Readings that are the same but for the time.
use Rattle.std.specs.Prelude.{ℤ}
use Rattle.paper.specs.Line.{Begun, bad, six}
use Rattle.paper.specs.declared.Head.{Head}
use Rattle.paper.specs.declared.Record.{Record}
use Rattle.paper.specs.declared.Line.{Line}
use Rattle.paper.specs.declared.Line.TheVariants.{Refused, Passed, Listed}

abbrev pub head_at : ℤ → Head → Head
head_at t h =
    record {
      kind = h.kind;
      event = h.event;
      time = t;
      processor = h.processor;
      process = h.process;
      count = h.count;
    }

unfoldable pub begun_at : ℤ → Begun → Begun
begun_at t (bad fault k) = bad fault k
begun_at t (six h fields) = six (head_at t h) fields

abbrev pub record_at : ℤ → Record → Record
record_at t r =
    record {
      time = t;
      processor = r.processor;
      kind = r.kind;
      event = r.event;
      values = r.values;
      role = r.role;
    }

unfoldable pub line_at : ℤ → Line → Line
line_at t (Refused fault spot) = Refused fault spot
line_at t Passed = Passed
line_at t (Listed r) = Listed (record_at t r)
