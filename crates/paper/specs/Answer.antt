-- Document 01, "Numbers a caller gets back", in its order: 1 to 4, the lines, 17 of the first change request, 19 of the eighth, 13 and 14, 15,
-- which is as far as a call reaches; then 16 and acceptance; and what the lent times and the room hold afterwards.
use Rattle.std.specs.Prelude.{ℕ, zero, suc, List, [], ◌++◌, Bool, true, false, cond, ◌&&◌, not, length, drop, ℤ, ltb, leb, eqb, Option, Result, Some, None, Ok, Err}
use Rattle.paper.specs.Tests.{all_up_to}
use Rattle.paper.specs.Numbers.{number_of}
use Rattle.paper.specs.Columns.{nowhere}
use Rattle.paper.specs.Reading.{Reading, lines_of, read_of}
use Rattle.paper.specs.Levels.{levels_of}
use Rattle.paper.specs.Statistics.{statistics_of}
use Rattle.paper.specs.Matching.{matched_of, matched_count, unreceived_count, waits_of}
use Rattle.paper.specs.Clock.{Settled, impossible, settled, settle, same, listed, Waits}
use Rattle.paper.specs.Written.{written_from}
use Rattle.paper.specs.declared.Asked.{Asked}
use Rattle.paper.specs.declared.Choice.{Choice}
use Rattle.paper.specs.declared.Choice.TheVariants.{Strict, Lenient}
use Rattle.paper.specs.declared.Fault.{Fault}
use Rattle.paper.specs.declared.Site.{Site}
use Rattle.paper.specs.declared.Answer.{Answer}
use Rattle.paper.specs.declared.Refusal.{Refusal}

-- What a call is given to judge: of the lent times only how many places they are.
pub record Given : Type 0 where
  pub trace : List ℕ
  pub latencies : List ℕ
  pub asked : Asked
  pub places : ℕ

-- ---- the limits

-- "at most 2,048 listed records"; `summed` in Statistics.antt is the most of which times are summed
unfoldable pub most : Given → ℕ
most g = 2048

-- "trace at most 65,536 bytes"
unfoldable pub longest : ℕ
longest = 65536

-- ---- 1 to 4

-- "1 (strict)", "2 (lenient)"
unfoldable pub choice_of : ℕ → Option Choice
choice_of n = cond (eqb n 1) (Some Strict) (cond (eqb n 2) (Some Lenient) None)

-- what the caller names, none for refusal 1: of the levels "0 for off .. or 1 for on; any other is refusal 1", and of the statistics "0 for off
-- or 1 for on, otherwise refusal 1"
unfoldable pub heard : Asked → Option Choice
heard a = cond (leb a.levels 1 && leb a.statistics 1) (choice_of a.choice) None

-- "exactly 4,096 unsigned whole numbers", "exactly 2,048 signed 64-bit places", and of the share "above 1,000 is refusal 2": false for that
unfoldable pub right_sizes : Given → Bool
right_sizes g = eqb (length g.latencies) 4096 && eqb g.places (most g) && leb g.asked.share 1000

-- "each at most 1,000,000"
unfoldable pub low_latencies : List ℕ → Bool
low_latencies xs = all_up_to 1000000 xs

-- ---- how far a call reaches

-- the times that a trace was found to have, with what was read
pub record Found : Type 0 where
  pub choice : Choice
  pub reading : Reading
  pub rounds : ℕ
  pub times : List ℤ

pub data Reached : Type 0 where
  stopped : (fault : Fault) (site : Site) → Reached
  found : Found → Reached

-- "then 15"
unfoldable pub on_settled : Choice → Reading → Settled → Reached
on_settled choice r impossible = stopped Fault.NoTimes nowhere
on_settled choice r (settled rounds times) = found (record { choice = choice; reading = r; rounds = rounds; times = times })

-- "then the first receive in file order that calls for 13 or 14"
unfoldable pub on_matched : Given → Choice → Reading → Result Unit Refusal → Reached
on_matched g choice r (Err refusal) = stopped refusal.fault refusal.site
on_matched g choice r (Ok tt) = on_settled choice r (settle (waits_of g.asked.share g.latencies r.entries))

-- "after the line checks and 17, before 13", 19
unfoldable pub on_statistics : Given → Choice → Reading → Result Unit Refusal → Reached
on_statistics g choice r (Err refusal) = stopped refusal.fault refusal.site
on_statistics g choice r (Ok tt) = on_matched g choice r (matched_of r.entries)

-- "After the lines are read, and before 13, refuse with 17"
unfoldable pub on_levels : Given → Choice → Reading → Result Unit Refusal → Reached
on_levels g choice r (Err refusal) = stopped refusal.fault refusal.site
on_levels g choice r (Ok tt) = on_statistics g choice r (statistics_of g.asked g.trace r.entries)

-- "then line by line, the first bad line deciding"
unfoldable pub on_read : Given → Choice → Reading → Result Unit Refusal → Reached
on_read g choice r (Err refusal) = stopped refusal.fault refusal.site
on_read g choice r (Ok tt) = on_levels g choice r (levels_of g.asked r.entries)

-- "1 to 4"
unfoldable pub on_choice : Given → Option Choice → Reached
on_choice g None = stopped Fault.BadChoice nowhere
on_choice g (Some choice) =
    let reading = read_of choice (most g) g.trace in
    let read = on_read g choice reading reading.stop in
    cond (right_sizes g)
    (cond (low_latencies g.latencies) (cond (leb (length g.trace) longest) read (stopped Fault.LongTrace nowhere)) (stopped Fault.HighLatency nowhere))
    (stopped Fault.WrongLength nowhere)

-- the refusals up to 15, or the times
unfoldable pub reach : Given → Reached
reach g = on_choice g (heard g.asked)

-- ---- the call

-- What a call comes to: the answer, the lent times and the room afterwards.
pub record Outcome : Type 0 where
  pub answer : Answer
  pub times : List ℤ
  pub room : List ℕ

-- What a call is given, and what it is lent.
pub record Inputs : Type 0 where
  pub trace : List ℕ
  pub latencies : List ℕ
  pub asked : Asked
  pub times : List ℤ
  pub wanted : Bool
  pub room : List ℕ

abbrev pub given : Inputs → Given
given i = record { trace = i.trace; latencies = i.latencies; asked = i.asked; places = length i.times }

-- "Every refusal returns its number and line, verdict 0 and all counts 0, and leaves times and output room untouched."
unfoldable pub refused : Inputs → Fault → Site → Outcome
refused i fault site =
    record {
      answer = record {
        number = number_of fault;
        line = site.line;
        column = site.column;
        verdict = 0;
        listed = 0;
        passed = 0;
        matched = 0;
        unreceived = 0;
        rounds = 0;
        written = 0;
      };
      times = i.times;
      room = i.room;
    }

-- ---- accepted

-- "Verdict 3 exactly if no message matched; 2 exactly if some time moved; else 1."
unfoldable pub verdict_of : ℕ → Bool → ℕ
verdict_of zero moved = 3
verdict_of (suc matched) true = 2
verdict_of (suc matched) false = 1

abbrev pub originals : Waits → List ℤ
originals w = listed w.size w.original

-- "The first places hold the corrected times of the listed records in file order; later places are untouched. .. The output room
-- holds the written trace at its start and is untouched after it."
unfoldable pub accepted : Inputs → Found → List ℕ → Outcome
accepted i f written =
    let es = f.reading.entries in
    record {
      answer = record {
        number = 0;
        line = 0;
        column = 0;
        verdict = verdict_of (matched_count es) (not (same f.times (originals (waits_of i.asked.share i.latencies es))));
        listed = length es;
        passed = f.reading.state.passed;
        matched = matched_count es;
        unreceived = unreceived_count es;
        rounds = f.rounds;
        written = length written;
      };
      times = f.times ++ drop (length f.times) i.times;
      room = written ++ drop (length written) i.room;
    }

-- ---- 16

-- "refusal 16 is given only where the written trace was asked for; unasked, the output room stays untouched"
unfoldable pub written : Inputs → Choice → List ℤ → List ℕ
written i choice times = cond i.wanted (written_from choice (lines_of i.trace) times) []

-- "then 16"
unfoldable pub on_written : Inputs → Found → List ℕ → Outcome
on_written i f bytes = cond (ltb (length i.room) (length bytes)) (refused i Fault.NoRoom nowhere) (accepted i f bytes)

-- what is left to do where a call has come so far
unfoldable pub conclude : Inputs → Reached → Outcome
conclude i (stopped fault site) = refused i fault site
conclude i (found f) = on_written i f (written i f.choice f.times)

unfoldable pub judge : Inputs → Outcome
judge i = conclude i (reach (given i))
