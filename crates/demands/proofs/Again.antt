-- "reading it again under that table and choice, if it is within the size limit, gives those times and moves none"
use Rattle.std.specs.Prelude.{Ok}
use Prim.Native.Nat.{ℕ, ◌≤◌, ◌<◌}
use native.Mathlib.Omega.{arith}
use mathlib.Core.Path.{◌≡◌, refl, sym, ap, ◌∙◌}
use mathlib.Core.Logic.{◌⊎◌, inl, inr}
use mathlib.Core.Bool.{Bool, true, false}
use mathlib.Core.List.{List}
use lib.ListN.{length, take}
use lib.IntN.{ℤ}
use lib.Signed.{<ℤ_irrefl}
use Rattle.paper.specs.Clock.{time_at}
use Rattle.paper.specs.Reading.{State, Reading, lines_of, read_of, start}
use Rattle.paper.specs.Levels.{levels_of}
use Rattle.paper.specs.Statistics.{statistics_of}
use Rattle.paper.specs.Written.{written_from}
use Rattle.paper.specs.Answer.{Inputs, Outcome, given, most, longest, heard, judge, written as bytes}
use Rattle.paper.specs.declared.Asked.{Asked}
use Rattle.paper.specs.declared.Choice.{Choice}
use Rattle.paper.specs.declared.Entry.{Entry}
use Rattle.matching.proofs.Times.{Alike, same_size, same_matched, same_matched_count, same_unreceived_count}
use Rattle.matching.proofs.Levels.{same_levels}
use Rattle.reading.proofs.Bytes.{clean_lines}
use Rattle.reading.proofs.Along.{along_back}
use Rattle.demands.specs.Parts.{number, verdict, listed, corrected, written_trace, written, time}
use Rattle.demands.specs.Steps.{Chosen, reading, entries, Accepted, original}
use Rattle.demands.specs.Switched.{switched_off}
use Rattle.demands.specs.Demand3.{Allowed}
use Rattle.demands.specs.Accepted.{Moved}
use Rattle.demands.specs.Demand2.{SameButStamps, Again, Steady}
use Rattle.demands.proofs.Tests.{same_most}
use Rattle.demands.proofs.Switched.{heard_off, heard_low, levels_off, none_compared, nothing_else}
use Rattle.demands.proofs.InOrder.{originals_range, originals_place}
use Rattle.demands.proofs.Allowed.{sound_keeping}
use Rattle.demands.proofs.Times.{one_choice, answer, size, listed_is, time_is}
use Rattle.demands.proofs.Refusals.{accepted_exactly}
use Rattle.demands.proofs.Accepted.{corrected_are, written_trace_lem, written_length, matched_is, unreceived_is, passed_is, along_trace, rounds_are, accepted_answer}
use Rattle.demands.proofs.Written.{same_but_stamps}
use Rattle.demands.proofs.Rising.{Rises, rises, between}
use Rattle.demands.proofs.Resettled.{there, written_settle}
use Rattle.demands.proofs.Reread.{with_times, times_alike, reread, rewritten}

-- ---- the written trace, read and written again

module _ (i : Inputs) (a : Accepted i) where
  abbrev choice : Choice
  choice = a.choice

  abbrev es : List Entry
  es = entries i a.choice

  abbrev written_bytes : List ℕ
  written_bytes = written_from a.choice (lines_of i.trace) a.times

  allowed : Allowed i.latencies es (time_at a.times)
  allowed = (sound_keeping i.asked.share i.latencies es (answer i a).least.sound).allowed

  rise : Rises start.last es a.times
  rise =
      let whole = a.matched.compared.levelled.read.whole in
      rises es a.times (size i a) (originals_place choice (most (given i)) i.trace whole)
      (λ k l. between (original es k) (time_at a.times k) (originals_range choice (most (given i)) i.trace whole k l) (allowed.above k l) (allowed.format k l))
      allowed.order

  read_again : (st : State) × (read_of choice (most (given i)) written_bytes ≡ record { stop = Ok tt; entries = with_times es a.times; state = st })
      × (st.passed ≡ (reading i choice).state.passed)
  read_again =
      let (st, reads, passed) = reread (along_trace i a) (clean_lines i.trace) a.times start refl refl rise in
      (st, along_back choice (most (given i)) written_bytes reads, passed)

  written_again : written_from choice (lines_of written_bytes) a.times ≡ written_bytes
  written_again = rewritten (along_trace i a) (clean_lines i.trace) start.last a.times rise

-- ---- the call that reads it

asked : (i : Inputs) → i.wanted ≡ true → (choice : Choice) (times : List ℤ) → bytes i choice times ≡ written_from choice (lines_of i.trace) times
unfolding bytes
asked i e choice times = rw e

-- "Writing the corrected trace changes timestamps only"
pub stamps_only : (i : Inputs) (a : Accepted i) → i.wanted ≡ true → (choice : Choice) → Chosen i choice
    → SameButStamps choice (lines_of i.trace) (corrected i) (lines_of (written_trace i))
stamps_only i a wanted choice c =
    rw (one_choice i choice a.choice c a.matched.compared.levelled.read.begun.chosen, corrected_are i a, written_trace_lem i a, asked i wanted a.choice a.times)
    (same_but_stamps (along_trace i a) (clean_lines i.trace) a.times (size i a))

module _ (i : Inputs) (a : Accepted i) (wanted : i.wanted ≡ true) (short : written i ≤ longest) (j : Inputs) (g : Again i j) where
  trace_is : j.trace ≡ written_bytes i a
  trace_is = g.trace ∙ written_trace_lem i a ∙ asked i wanted a.choice a.times

  same_limit : most (given j) ≡ most (given i)
  same_limit = same_most (given j) (given i) g.places

  reading_is : reading j a.choice ≡ record { stop = Ok tt; entries = with_times (es i a) a.times; state = (read_again i a).0 }
  reading_is =
      ap (λ (n : ℕ). read_of a.choice n j.trace) same_limit ∙ ap (read_of a.choice (most (given i))) trace_is ∙ (read_again i a).1

  entries_are : entries j a.choice ≡ with_times (es i a) a.times
  entries_are = ap (λ (r : Reading). r.entries) reading_is

  alike_entries : Alike (entries j a.choice) (es i a)
  alike_entries = rw entries_are (times_alike (es i a) a.times)

  bytes_again : j.wanted ≡ true → bytes j a.choice a.times ≡ written_trace i
  bytes_again e =
      asked j e a.choice a.times ∙ ap (λ (s : List ℕ). written_from a.choice (lines_of s) a.times) trace_is ∙ written_again i a
      ∙ sym trace_is ∙ g.trace

  room_again : (b : Bool) → j.wanted ≡ b → length (bytes j a.choice a.times) ≤ length j.room
  unfolding bytes
  room_again true e = rw (bytes_again e, written_length i a) (g.room e)
  room_again false e = rw e (omega arith)

  accepted : Accepted j
  accepted =
      let m = a.matched in
      let begun = m.compared.levelled.read.begun in
      record {
        choice = a.choice;
        rounds = 0;
        times = a.times;
        matched = record {
          compared = record {
            levelled = record {
              read = record {
                begun = record {
                  chosen = ap heard g.asked ∙ heard_off i.asked (heard_low i.asked begun.chosen) ∙ begun.chosen;
                  sizes = (rw g.latencies begun.sizes.0, g.places ∙ begun.sizes.1 ∙ sym same_limit, rw g.asked begun.sizes.2);
                  low = rw g.latencies begun.low;
                  short = rw (g.trace, written_length i a) short;
                };
                whole = ap (λ (r : Reading). r.stop) reading_is;
              };
              levels = ap (λ (x : Asked). levels_of x (entries j a.choice)) g.asked ∙ levels_off i.asked (entries j a.choice)
                  ∙ same_levels i.asked (entries j a.choice) (es i a) alike_entries ∙ m.compared.levelled.levels;
            };
            agree = ap (λ (x : Asked). statistics_of x j.trace (entries j a.choice)) g.asked
                ∙ none_compared i.asked j.trace (entries j a.choice);
          };
          matches = same_matched (entries j a.choice) (es i a) alike_entries ∙ m.matches;
        };
        settles = rw (entries_are, g.latencies, g.asked)
            (written_settle i.latencies (es i a) a.times (size i a) (allowed i a) i.asked.share begun.sizes.2);
        room = room_again _ refl;
      }

  still_times : ¬ Moved j a.choice
  unfolding accepted
  still_times (k, l, less) =
      let inside : k < length (entries j a.choice) = rw (← listed_is j accepted) l in
      let stays : original (entries j a.choice) k ≡ time j k =
      rw (entries_are, time_is j accepted k inside) (there i.latencies (es i a) a.times (size i a) (allowed i a) k (rw (← entries_are) inside)) in
      <ℤ_irrefl (rw stays at less)

  pub steady : Steady i j
  unfolding accepted
  steady =
      let fs = entries j a.choice in
      let chosen = accepted.matched.compared.levelled.read.begun.chosen in
      let told = accepted_answer j accepted a.choice chosen in
      let matches = matched_is j accepted ∙ same_matched_count fs (es i a) alike_entries ∙ sym (matched_is i a) in
      record {
        accepted = (accepted_exactly j).1 accepted;
        times = corrected_are j accepted ∙ sym (corrected_are i a);
        no_round = rounds_are j accepted;
        still = λ choice c. rw (one_choice j choice a.choice c chosen) still_times;
        consistent = rw (← matches) (λ e. (told.consistent.0 e).0, λ m. told.consistent.1 (m, still_times));
        nothing = rw (← matches) told.nothing;
        lists = listed_is j accepted ∙ same_size fs (es i a) alike_entries ∙ sym (listed_is i a);
        passes = passed_is j accepted ∙ ap (λ (r : Reading). r.state.passed) reading_is ∙ (read_again i a).2 ∙ sym (passed_is i a);
        matches = matches;
        leaves = unreceived_is j accepted ∙ same_unreceived_count fs (es i a) alike_entries ∙ sym (unreceived_is i a);
        bytes = λ e. written_trace_lem j accepted ∙ bytes_again e;
      }

-- ---- and with the comparison on, where that finds no difference

module _ (i j : Inputs) (on : j.asked.statistics ≤ 1) (same : judge j ≡ judge (switched_off j)) (off : Steady i (switched_off j)) where
  same_verdict : verdict j ≡ verdict (switched_off j)
  same_verdict = ap (λ (o : Outcome). o.answer.verdict) same

  same_listed : listed j ≡ listed (switched_off j)
  same_listed = ap (λ (o : Outcome). o.answer.listed) same

  still_compared : (choice : Choice) → Chosen j choice → ¬ Moved j choice
  unfolding most
  still_compared choice c (k, l, less) =
      let same_time : time j k ≡ time (switched_off j) k = ap (λ (o : Outcome). time_at o.times k) same in
      off.still choice (heard_off j.asked on ∙ c) (k, omega (arith, l, same_listed), rw same_time at less)

  steady_compared : Steady i j
  steady_compared =
      record {
        accepted = ap (λ (o : Outcome). o.answer.number) same ∙ off.accepted;
        times = ap (λ (o : Outcome). take o.answer.listed o.times) same ∙ off.times;
        no_round = ap (λ (o : Outcome). o.answer.rounds) same ∙ off.no_round;
        still = still_compared;
        consistent = rw same_verdict off.consistent;
        nothing = rw same_verdict off.nothing;
        lists = same_listed ∙ off.lists;
        passes = ap (λ (o : Outcome). o.answer.passed) same ∙ off.passes;
        matches = ap (λ (o : Outcome). o.answer.matched) same ∙ off.matches;
        leaves = ap (λ (o : Outcome). o.answer.unreceived) same ∙ off.leaves;
        bytes = λ e. ap (λ (o : Outcome). take o.answer.written o.room) same ∙ off.bytes e;
      }

-- "demand 2's reading again has it off": on, it finds one, or nothing else changes
pub again_on : (i j : Inputs) → j.asked.statistics ≡ 1 → Steady i (switched_off j) → (number j ≡ 19) ⊎ Steady i j
again_on i j on off = go (nothing_else j (omega arith))
  where
    go : (number j ≡ 19) ⊎ (judge j ≡ judge (switched_off j)) → (number j ≡ 19) ⊎ Steady i j
    go (inl e) = inl e
    go (inr same) = inr (steady_compared i j (omega arith) same off)
