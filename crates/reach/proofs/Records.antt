-- The lines read into the store, and the times of the records there: what the code's answers come to.
use Rattle.std.specs.Prelude.{Result, Ok, Err}
use Prim.Native.Nat.{ℕ, ◌≤◌, ◌<◌, ◌^◌}
use mathlib.Core.Path.{◌≡◌, refl, sym, ap, ◌∙◌}
use mathlib.Core.List.{List}
use native.Mathlib.Omega.{arith}
use lib.ListN.{length, take}
use lib.IntN.{ℤ}
use Rattle.paper.specs.Levels.{levels_of}
use Rattle.paper.specs.Statistics.{statistics_of}
use Rattle.paper.specs.Answer.{Given, Reached, on_read, on_levels, on_statistics, on_matched, on_settled}
use Rattle.paper.specs.Matching.{entry_at, matched_of}
use Rattle.paper.specs.Reading.{Reading, read_of}
use Rattle.paper.specs.declared.Asked.{Asked}
use Rattle.paper.specs.declared.Choice.{Choice}
use Rattle.paper.specs.declared.Entry.{Entry}
use Rattle.reading.specs.Starts.{start_of}
use Rattle.reading.specs.Tidy.{TidyRecord}
use Rattle.reading.proofs.Starts.{start_within}
use Rattle.store.specs.Layout.{capacity, entry_from, entries_in, start_from}
use Rattle.store.proofs.Laws.{start_stored, length_entries, entry_in}
use Rattle.trace.specs.Read.{ReadInto}
use Rattle.trace.specs.declared.Read.{Read}
use Rattle.trace.proofs.Entries.{entries_small}
use Rattle.trace.proofs.Into.{stop_is, listed_is, passed_is, few_listed, same_capacity, entries_are}
use Rattle.waits.proofs.Gaps.{gaps_narrow}
use Rattle.solve.specs.Outcome.{Keepable, solved_by}
use Rattle.clearance.specs.Clearance.{given_of}
use Rattle.reach.specs.Reach.{reaches}
use Rattle.reach.specs.Lines.{Sized, as_reached, SettledBy, Comparable, from_lines}
use Rattle.reach.proofs.Comparing.{small_at}
use Rattle.paper.specs.declared.Refusal.{Refusal}
use Rattle.solve.specs.declared.Unsolved.{Unsolved}
use Rattle.reach.specs.declared.Unreached.{Unreached}
use Rattle.answer.specs.declared.Counts.{Counts}

-- a trace that was read into a store
module _ (choice : Choice) (trace store₀ : List ℕ) (r : Read) (store : List ℕ) (into : ReadInto choice trace store₀ r store) where
  abbrev whole : Reading
  whole = read_of choice (capacity store₀) trace

  few_stored : r.listed ≤ capacity store
  few_stored = rw (same_capacity into) (few_listed into)

  -- slices made for as many records as the store are made for those that were read, whatever was written into them
  pub ready : {sends before gap latency : List ℕ} {times spare : List ℤ} → Sized (capacity store₀) sends before gap latency times spare
      → {before' latency' : List ℕ} {times' spare' : List ℤ}
      → length before' ≡ length before → length latency' ≡ length latency → length times' ≡ length times → length spare' ≡ length spare
      → Sized (length sends) sends before' gap latency' times' spare' × ((r.listed ≤ length sends) × (r.listed ≤ capacity store))
  ready z a b c d =
      let all = z.all_sends in (
        record {
          few = rw all z.few;
          all_sends = refl;
          all_before = a ∙ z.all_before ∙ sym all;
          all_gap = z.all_gap ∙ sym all;
          all_latency = b ∙ z.all_latency ∙ sym all;
          all_times = c ∙ z.all_times ∙ sym all;
          all_spare = d ∙ z.all_spare ∙ sym all;
        },
        (rw all (few_listed into), few_stored),
      )

  module _ (short : length trace < 2 ^ 32) where
    starts_are : (k : ℕ) → k < r.listed → start_from store k ≡ start_of trace (entry_at whole.entries k).line
    starts_are k l =
        let inside : k < length whole.entries = rw (listed_is into) l in
        let low : start_of trace (entry_at whole.entries k).line < 2 ^ 32 = omega (arith, start_within trace (entry_at whole.entries k).line) in
        rw into.holds (start_stored (start_of trace) whole.entries store₀ k inside low)

    stored_at : (k : ℕ) → k < r.listed → entry_from store k ≡ entry_at whole.entries k
    stored_at k l = sym (entry_in store r.listed k l) ∙ ap (λ (es : List Entry). entry_at es k) (entries_are into short)

    tidy_at : (k : ℕ) → k < r.listed → TidyRecord (entry_from store k).body
    tidy_at k l = rw (stored_at k l) (small_at whole.entries (entries_small choice (capacity store₀) trace short) k (rw (listed_is into) l)).tidy

    pub comparable : {sends before gap latency : List ℕ} {times spare : List ℤ} → Sized (capacity store₀) sends before gap latency times spare
        → Comparable trace store r.listed before latency times spare
    comparable z =
        record {
          few = omega (arith, few_listed into, z.few);
          in_before = rw z.all_before (few_listed into);
          all_latency = z.all_latency ∙ sym z.all_before;
          all_times = z.all_times ∙ sym z.all_before;
          all_spare = z.all_spare ∙ sym z.all_before;
          holding = record {
            tidy = tidy_at;
            stands = λ k l. rw (stored_at k l) (starts_are k l);
          };
        }

    -- every gap that is kept is one between two times of the trace
    pub keepable : {share : ℕ} → share ≤ 1000 → Keepable share (entries_in store r.listed)
    keepable {share} few =
        record {
          few = few;
          narrow =
              gaps_narrow share (entries_in store r.listed) few
              (λ k l. let inside : k < r.listed = rw (length_entries store r.listed) at l in
              rw (entry_in store r.listed k inside) (tidy_at k inside).time);
        }

    -- "then the first receive in file order that calls for 13 or 14 ..; then 15"
    module _ (latencies sends : List ℕ) (times : List ℤ) (g : Given) (table : g.latencies ≡ latencies) where
      solved_reaches : (x : Result (ℕ × ℕ × ℕ) Unsolved) → solved_by g.asked.share latencies (entries_in store r.listed) x (take r.listed sends) (take r.listed times)
          → reaches trace (on_matched g choice whole (matched_of whole.entries)) (as_reached r.listed r.passed x) store sends times
      unfolding reaches as_reached solved_by on_matched on_settled
      solved_reaches (Ok (matched, unreceived, rounds)) by =
          let s = rw (entries_are into short) at by in (
            record { choice = choice; reading = whole; rounds = rounds; times = take r.listed times },
            rw (s.matches, table, s.settles),
            record {
              listed = listed_is into;
              passed = passed_is into;
              matched = sym s.many;
              unreceived = sym s.left;
              rounds = refl;
              entries = entries_are into short;
              starts = starts_are;
              places = s.places;
              new = refl;
            },
          )
      solved_reaches (Err (Unsolved.Refused refusal)) by = let s = rw (entries_are into short) at by in rw s
      solved_reaches (Err Unsolved.Impossible) by = let s = rw (entries_are into short) at by in rw (s.0, table, s.1)
      solved_reaches (Err Unsolved.Misfit) by = by

    -- "then line by line, the first bad line deciding"; "After the lines are read, and before 13, refuse with 17"; "after the line checks and
    -- 17, before 13", 19
    module _ (latencies : List ℕ) (asked : Asked) where
      abbrev given : ℕ → Given
      given places = given_of trace latencies asked places

      -- how far the paper's call comes
      abbrev comes : ℕ → Reached
      comes places = on_read (given places) choice whole whole.stop

      abbrev From : Result Counts Unreached → List ℕ → List ℤ → Type 0
      From answer sends times = from_lines trace latencies asked choice whole answer store sends times

      pub line_refused : (refusal : Refusal) → r.stop ≡ Err refusal → (sends : List ℕ) (times : List ℤ) → From (Err (Unreached.Refused refusal)) sends times
      unfolding from_lines reaches on_read
      line_refused refusal e sends times places = ap (on_read (given places) choice whole) (sym (stop_is into) ∙ e)

      module _ (good : r.stop ≡ Ok tt) where
        past_lines : (places : ℕ) → comes places ≡ on_levels (given places) choice whole (levels_of asked (entries_in store r.listed))
        unfolding on_read
        past_lines places =
            ap (on_read (given places) choice whole) (sym (stop_is into) ∙ good)
            ∙ ap (λ (es : List Entry). on_levels (given places) choice whole (levels_of asked es)) (sym (entries_are into short))

        pub levels_refused : (refusal : Refusal) → Err refusal ≡ levels_of asked (entries_in store r.listed) → (sends : List ℕ) (times : List ℤ)
            → From (Err (Unreached.Refused refusal)) sends times
        unfolding from_lines reaches on_levels
        levels_refused refusal e sends times places = past_lines places ∙ ap (on_levels (given places) choice whole) (sym e)

        module _ (levels : Ok tt ≡ levels_of asked (entries_in store r.listed)) where
          past_levels : (places : ℕ) → comes places ≡ on_statistics (given places) choice whole (statistics_of asked trace (entries_in store r.listed))
          unfolding on_levels
          past_levels places =
              past_lines places ∙ ap (on_levels (given places) choice whole) (sym levels)
              ∙ ap (λ (es : List Entry). on_statistics (given places) choice whole (statistics_of asked trace es)) (sym (entries_are into short))

          pub statistics_refused : (refusal : Refusal) → Err refusal ≡ statistics_of asked trace (entries_in store r.listed) → (sends : List ℕ) (times : List ℤ)
              → From (Err (Unreached.Refused refusal)) sends times
          unfolding from_lines reaches on_statistics
          statistics_refused refusal e sends times places = past_levels places ∙ ap (on_statistics (given places) choice whole) (sym e)

          pub lines_read : Ok tt ≡ statistics_of asked trace (entries_in store r.listed) → {x : Result Counts Unreached} {sends : List ℕ} {times : List ℤ}
              → SettledBy asked.share latencies (entries_in store r.listed) r.listed r.passed x sends times
              → From x sends times
          unfolding from_lines on_statistics
          lines_read statistics {x} {sends} {times} s places =
              rw (past_levels places ∙ ap (on_statistics (given places) choice whole) (sym statistics), s.is)
              (solved_reaches latencies sends times (given places) refl s.answer s.solves)
