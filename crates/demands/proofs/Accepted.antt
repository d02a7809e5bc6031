-- What an accepted call tells and leaves.
use Prim.Native.Nat.{ℕ, ◌+◌, ◌-◌, ◌≤◌}
use native.Mathlib.Omega.{arith}
use mathlib.Core.Path.{◌≡◌, refl, sym, ap, ◌∙◌}
use mathlib.Core.Bool.{false}
use mathlib.Core.List.{List, ◌++◌}
use lib.ListN.{length, drop, length-append, length-drop}
use lib.Seq.{take_at, drop_at, get_or-append-add, get_or-drop}
use lib.IntN.{pos}
use Rattle.paper.specs.Clock.{time_at}
use Rattle.paper.specs.Columns.{in_line}
use Rattle.paper.specs.Reading.{lines_of, start}
use Rattle.paper.specs.Matching.{matched_count, unreceived_count, waits_of}
use Rattle.paper.specs.Answer.{Inputs, Outcome, given, most, judge, accepted, written as bytes}
use Rattle.paper.specs.declared.Choice.{Choice}
use Rattle.matching.proofs.Counts.{counts_add}
use Rattle.reading.proofs.Along.{Reads, along}
use Rattle.demands.specs.Parts.{listed, passed, matched, unreceived, rounds, verdict, written, time, corrected, written_trace}
use Rattle.demands.specs.Steps.{Chosen, reading, entries, Accepted}
use Rattle.demands.specs.Records.{passed_in}
use Rattle.demands.specs.Accepted.{Moved, AcceptedAnswer}
use Rattle.demands.proofs.Recorded.{records_along, passed_along}
use Rattle.demands.proofs.Judged.{judge_accepted}
use Rattle.demands.proofs.Times.{one_choice, listed_is, answer, size, times_are}
use Rattle.demands.proofs.InOrder.{few_entries}
use Rattle.demands.proofs.Moved.{moved_tells, unmatched_still}
use Rattle.demands.proofs.Verdicts.{Verdict, verdicts}

module _ (i : Inputs) (a : Accepted i) where
  -- ---- the times

  length_times : length a.times ≡ listed i
  length_times = size i a ∙ sym (listed_is i a)

  pub corrected_are : corrected i ≡ a.times
  corrected_are = rw (times_are i a) (take_at a.times _ (listed i) length_times)

  later : (k : ℕ) → listed i ≤ k → time i k ≡ time_at i.times k
  later k l =
      let n = length a.times in
      let e : n + (k - n) ≡ k = omega (arith, length_times) in
      rw (times_are i a, ← e) (get_or-append-add a.times (drop n i.times) (k - n) (pos 0) ∙ get_or-drop n i.times (k - n) (pos 0))

  -- ---- the room

  abbrev word : List ℕ
  word = bytes i a.choice a.times

  written_is : written i ≡ length word
  unfolding accepted
  written_is = ap (λ (o : Outcome). o.answer.written) (judge_accepted i a)

  room_is : (judge i).room ≡ word ++ drop (length word) i.room
  unfolding accepted
  room_is = ap (λ (o : Outcome). o.room) (judge_accepted i a)

  pub written_trace_lem : written_trace i ≡ word
  written_trace_lem = rw (room_is, written_is) (take_at word _ (length word) refl)

  pub written_length : length (written_trace i) ≡ written i
  written_length = ap length written_trace_lem ∙ sym written_is

  unasked : i.wanted ≡ false → (written i ≡ 0) × ((judge i).room ≡ i.room)
  unfolding bytes
  unasked e = (written_is ∙ rw e, room_is ∙ rw e)

  -- ---- all of it

  verdict_is : Verdict (verdict i) (matched_count (entries i a.choice)) (Moved i a.choice)
  unfolding accepted
  verdict_is =
      rw (ap (λ (o : Outcome). o.answer.verdict) (judge_accepted i a))
      (verdicts (matched_count (entries i a.choice)) _ (moved_tells i a) (unmatched_still i a))

  pub matched_is : matched i ≡ matched_count (entries i a.choice)
  unfolding accepted
  matched_is = ap (λ (o : Outcome). o.answer.matched) (judge_accepted i a)

  pub unreceived_is : unreceived i ≡ unreceived_count (entries i a.choice)
  unfolding accepted
  unreceived_is = ap (λ (o : Outcome). o.answer.unreceived) (judge_accepted i a)

  pub passed_is : passed i ≡ (reading i a.choice).state.passed
  unfolding accepted
  passed_is = ap (λ (o : Outcome). o.answer.passed) (judge_accepted i a)

  pub along_trace : Reads a.choice (most (given i)) (lines_of i.trace) 1 start (entries i a.choice) (reading i a.choice).state
  along_trace = along a.choice (most (given i)) i.trace a.matched.compared.levelled.read.whole

  passed_lines : (reading i a.choice).state.passed ≡ passed_in a.choice (lines_of i.trace)
  unfolding start
  passed_lines = omega (arith, passed_along a.choice (most (given i)) along_trace)

  pub rounds_are : rounds i ≡ a.rounds
  unfolding accepted
  rounds_are = ap (λ (o : Outcome). o.answer.rounds) (judge_accepted i a)

  told : AcceptedAnswer i a.choice
  unfolding accepted waits_of
  told =
      record {
        no_line = ap (λ (o : Outcome). in_line o.answer.line o.answer.column) (judge_accepted i a);
        records = records_along a.choice (most (given i)) along_trace;
        lists = listed_is i a;
        passes = passed_is ∙ passed_lines;
        matches = matched_is;
        leaves = rw (matched_is, unreceived_is) (counts_add (entries i a.choice) a.matched.matches);
        repeats = rw rounds_are (answer i a).repeats;
        first = rw rounds_are (answer i a).first;
        bound = rw (rounds_are, listed_is i a) (answer i a).bound;
        nothing = rw matched_is verdict_is.nothing;
        moves = verdict_is.moves;
        consistent = rw matched_is verdict_is.consistent;
        places = rw (times_are i a, length-append, length-drop)
            (omega (arith, a.matched.compared.levelled.read.begun.sizes.1, size i a, few_entries a.choice (most (given i)) i.trace a.matched.compared.levelled.read.whole));
        later = later;
        writes = rw corrected_are written_trace_lem;
        written_length = rw corrected_are written_is;
        after = rw (room_is, written_is) (drop_at word _ (length word) refl);
        unasked = unasked;
      }

  pub accepted_answer : (choice : Choice) → Chosen i choice → AcceptedAnswer i choice
  accepted_answer choice c = rw (one_choice i a.choice choice a.matched.compared.levelled.read.begun.chosen c) at told
