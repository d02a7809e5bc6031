-- Rows 5 to 14, 17 and 19 as the table says them are where the reading stops, where the levels do, where the statistics and where the
-- matching.
use Rattle.std.specs.Prelude.{Option, Some}
use Prim.Native.Nat.{ℕ, ◌<◌}
use mathlib.Core.Path.{◌≡◌, refl, sym, ap, ◌∙◌}
use mathlib.Core.Logic.{inl, inr}
use mathlib.Core.List.{List}
use lib.ListN.{length}
use Rattle.paper.specs.Columns.{column_of, column_in, in_line, whole_line, refused_at}
use Rattle.paper.specs.Reading.{Lines, done, unended, ended, lines_of, read_of}
use Rattle.paper.specs.Levels.{levels_of}
use Rattle.paper.specs.Statistics.{statistics_of}
use Rattle.paper.specs.Matching.{entry_at, matched_of}
use Rattle.paper.specs.Answer.{Inputs, given, most}
use Rattle.paper.specs.declared.Choice.{Choice}
use Rattle.paper.specs.declared.Entry.{Entry}
use Rattle.paper.specs.declared.Fault.{Fault}
use Rattle.paper.specs.declared.Site.{Site}
use Rattle.matching.specs.Belongs.{processor}
use Rattle.matching.proofs.Calls.{call_at, FirstCall, first_call_at, at_first_call}
use Rattle.demands.specs.Steps.{Begun, reading, entries, Read, Levelled, Compared}
use Rattle.demands.specs.Before.{Good, ComesTo, AtLine}
use Rattle.demands.specs.Levels.{OtherLevels, AtLevels}
use Rattle.demands.specs.Statistics.{OtherStatistics, NoDifference}
use Rattle.demands.specs.Rows.{BadForm, BadStamp, UnlistedStrict, NotHandled, BadPlace, NoMessage, Backwards, TooMany, NoSend, LongReceive, FirstReceive}
use Rattle.demands.specs.Table.{InField, NoEnd, When}
use Rattle.demands.proofs.Stops.{site_is, OfALine, BadLine, BadLevels, BadStatistics, BadReceive}
use Rattle.demands.proofs.LineRows.{RowIn, form_row, stamp_row, strict_row, handled_row, place_row, message_row}
use Rattle.demands.proofs.GoodLines.{StopsOn, no_end, in_line_lem, backwards, too_many_lem, stops_number, Stopped, stops_there, ends_there, stopped_there}
use Rattle.demands.proofs.InOrder.{originals_place}
use Rattle.demands.proofs.LevelRows.{levels_row, levels_none}
use Rattle.demands.proofs.StatisticsRows.{statistics_row, statistics_none}
use Rattle.demands.proofs.ReceiveRows.{RowAt, send_row, length_row, call_row, nothing_called, called_not}

module _ (i : Inputs) where
  -- what is bad where a call has come to
  abbrev BadAt : (n : ℕ) (rest : Lines) → ComesTo i n rest → Fault → ℕ → Type 0
  BadAt n rest c fault column = StopsOn c.choice (most (given i)) (lines_of i.trace) c.before fault rest column

  stopped : (choice : Choice) → Stopped choice (most (given i)) (lines_of i.trace) (reading i choice).stop
  unfolding read_of
  stopped choice = stopped_there choice (most (given i)) (lines_of i.trace)

  -- ---- from the table

  bad_stops : (s : Site) (rest : Lines) (c : ComesTo i s.line rest) (fault : Fault) (column : ℕ) → BadAt s.line rest c fault column
      → s.column ≡ column → BadLine i fault s
  unfolding read_of
  bad_stops s rest c fault column bad e =
      record {
        choice = c.choice;
        begun = c.begun;
        stops = stops_there c.choice (most (given i)) (lines_of i.trace) c.good bad ∙ ap (refused_at fault) (sym (site_is s s.line column refl e));
      }

  pub end_stops : (s : Site) → NoEnd i s → BadLine i Fault.Form s
  end_stops s e = bad_stops s (unended e.line) e.comes Fault.Form _ no_end e.column

  pub field_stops : (s : Site) (fault : Fault) (bad : Choice → List ℕ → ℕ → Type 0)
      → ((choice : Choice) (l : List ℕ) (k : ℕ) → bad choice l k → RowIn choice l fault (Some k)) → InField i s bad → BadLine i fault s
  unfolding column_in
  field_stops s fault bad means f =
      bad_stops s _ f.at.comes fault _ (in_line_lem (means f.at.comes.choice f.at.line f.field f.is)) f.column

  pub backwards_stops : (s : Site) (at : AtLine i s.line) → Backwards at.comes.before at.comes.choice at.line → s.column ≡ 0
      → BadLine i Fault.Backwards s
  backwards_stops s at row e = bad_stops s _ at.comes Fault.Backwards 0 (backwards row) e

  pub many_stops : (s : Site) (at : AtLine i s.line) → TooMany (most (given i)) at.comes.before at.comes.choice at.line
      → s.column ≡ 0 → BadLine i Fault.TooMany s
  many_stops s at row e = bad_stops s _ at.comes Fault.TooMany 0 (too_many_lem row) e

  -- all lines good, and their records
  all_read : (n : ℕ) (c : ComesTo i n done) → Read i c.choice
  unfolding read_of
  all_read n c = record { begun = c.begun; whole = (ends_there c.choice (most (given i)) (lines_of i.trace) c.good).0 }

  all_entries : (n : ℕ) (c : ComesTo i n done) → entries i c.choice ≡ c.before
  unfolding read_of
  all_entries n c = (ends_there c.choice (most (given i)) (lines_of i.trace) c.good).1

  all_places : (n : ℕ) (c : ComesTo i n done) → (k : ℕ) → k < length c.before → processor c.before k < 64
  all_places n c = rw (all_entries n c) at (originals_place c.choice (most (given i)) i.trace (all_read n c).whole)

  -- what the levels of the records come to
  all_levels : (n : ℕ) (c : ComesTo i n done) → levels_of i.asked (entries i c.choice) ≡ levels_of i.asked c.before
  all_levels n c = ap (levels_of i.asked) (all_entries n c)

  pub levels_stop : (s : Site) → OtherLevels i s.line → s.column ≡ 0 → BadLevels i Fault.OtherLevels s
  levels_stop s o e =
      let row = levels_row i.asked o.comes.before (all_places o.end o.comes) Fault.OtherLevels s in
      record {
        choice = o.comes.choice;
        read = all_read o.end o.comes;
        calls = all_levels o.end o.comes ∙ row.1 (refl, o.decides, e);
      }

  all_levelled : (n : ℕ) (c : ComesTo i n done) → AtLevels i.asked c.before → Levelled i c.choice
  all_levelled n c h =
      record { read = all_read n c; levels = all_levels n c ∙ (levels_none i.asked c.before (all_places n c)).1 h }

  -- what their statistics come to
  all_statistics : (n : ℕ) (c : ComesTo i n done)
      → statistics_of i.asked i.trace (entries i c.choice) ≡ statistics_of i.asked i.trace c.before
  all_statistics n c = ap (statistics_of i.asked i.trace) (all_entries n c)

  pub statistics_stop : (s : Site) → OtherStatistics i s.line → s.column ≡ 0 → BadStatistics i Fault.OtherStatistics s
  statistics_stop s o e =
      let row = statistics_row i.asked i.trace o.comes.before Fault.OtherStatistics s in
      record {
        choice = o.comes.choice;
        levelled = all_levelled o.end o.comes o.levels;
        calls = all_statistics o.end o.comes ∙ row.1 (refl, o.differs, e);
      }

  all_compared : (n : ℕ) (c : ComesTo i n done) → AtLevels i.asked c.before → NoDifference i.asked i.trace c.before
      → Compared i c.choice
  all_compared n c levels statistics =
      record {
        levelled = all_levelled n c levels;
        agree = all_statistics n c ∙ (statistics_none i.asked i.trace c.before).1 statistics;
      }

  pub call_stops : (s : Site) (fault : Fault) (calls : List Entry → ℕ → Type 0) → ((es : List Entry) (k : ℕ) → calls es k → call_at es k ≡ Some fault)
      → FirstReceive i s.line calls → s.column ≡ 0 → BadReceive i fault s
  call_stops s fault calls means f e =
      let es = f.comes.before in
      let call : FirstCall es f.place fault =
      record { within = f.within; calls = means es f.place f.is; none_before = λ k l. nothing_called es k (f.first k l) } in
      record {
        choice = f.comes.choice;
        compared = all_compared f.end f.comes f.levels f.statistics;
        calls = ap matched_of (all_entries f.end f.comes) ∙ first_call_at es f.place fault call
            ∙ ap (refused_at fault) (sym (site_is s (entry_at es f.place).line 0 (sym f.its_line) e));
      }

  -- ---- to the table

  in_field : (n : ℕ) (at : AtLine i n) (k : ℕ) (bad : Choice → List ℕ → ℕ → Type 0) → bad at.comes.choice at.line k
      → InField i (in_line n (column_of k at.line)) bad
  in_field n at k bad r = record { at = at; field = k; is = r; column = refl }

  when_row : (n : ℕ) (at : AtLine i n) {fault : Fault} {spot : Option ℕ} → RowIn at.comes.choice at.line fault spot
      → When i fault (in_line n (column_in at.line spot))
  unfolding When column_in
  when_row n at (form_row {k = k} r) = inr (in_field n at k (λ choice. BadForm) r)
  when_row n at (stamp_row {k = k} r) = in_field n at k (λ choice. BadStamp) r
  when_row n at (strict_row {k = k} r) = in_field n at k UnlistedStrict r
  when_row n at (handled_row {k = k} r) = in_field n at k (λ choice. NotHandled) r
  when_row n at (place_row {k = k} r) = in_field n at k (λ choice. BadPlace) r
  when_row n at (message_row {k = k} r) = in_field n at k (λ choice. NoMessage) r

  module _ (choice : Choice) (begun : Begun i choice) (n : ℕ) (es : List Entry) where
    comes_to : (rest : Lines) → Good choice (most (given i)) (lines_of i.trace) n es rest → ComesTo i n rest
    comes_to rest good = record { choice = choice; begun = begun; before = es; good = good }

    at_line : (l : List ℕ) (x : Lines) → Good choice (most (given i)) (lines_of i.trace) n es (ended l x) → AtLine i n
    at_line l x good = record { line = l; later = x; comes = comes_to (ended l x) good }

    when_bad : {fault : Fault} {rest : Lines} {column : ℕ} → StopsOn choice (most (given i)) (lines_of i.trace) es fault rest column
        → Good choice (most (given i)) (lines_of i.trace) n es rest → When i fault (in_line n column)
    unfolding When comes_to at_line
    when_bad (no_end {l = l}) good = inl (record { line = l; comes = comes_to (unended l) good; column = refl })
    when_bad (in_line_lem {l = l} {x = x} row) good = when_row n (at_line l x good) row
    when_bad (backwards {l = l} {x = x} row) good = (at_line l x good, row, refl)
    when_bad (too_many_lem {l = l} {x = x} row) good = (at_line l x good, row, refl)

  pub when_line : (fault : Fault) (s : Site) → BadLine i fault s → When i fault s
  when_line fault s b =
      let (es, rest, good, bad) = rw b.stops at (stopped b.choice) in
      when_bad b.choice b.begun s.line es bad good

  -- only 5 to 12 are given there
  pub line_number : (fault : Fault) (s : Site) → BadLine i fault s → OfALine fault
  line_number fault s b = let (es, rest, good, bad) = rw b.stops at (stopped b.choice) in stops_number _ _ _ bad

  all_good : (choice : Choice) → Read i choice → (end : ℕ) × (es : List Entry) × Good choice (most (given i)) (lines_of i.trace) end es done
  all_good choice r = rw r.whole at (stopped choice)

  pub when_levels : (fault : Fault) (s : Site) → BadLevels i fault s → When i fault s
  unfolding When
  when_levels fault s b =
      let (end, es, good) = all_good b.choice b.read in
      let c : ComesTo i end done = record { choice = b.choice; begun = b.read.begun; before = es; good = good } in
      let (same, d, whole) = (levels_row i.asked es (all_places end c) fault s).0 (sym (all_levels end c) ∙ b.calls) in
      rw same (record { end = end; comes = c; decides = d }, whole)

  -- the records of a call that passes 17
  module _ (choice : Choice) (l : Levelled i choice) where
    its_records : (end : ℕ) × (c : ComesTo i end done) × (c.choice ≡ choice) × AtLevels i.asked c.before
    its_records =
        let (end, es, good) = all_good choice l.read in
        let c : ComesTo i end done = record { choice = choice; begun = l.read.begun; before = es; good = good } in
        (end, c, refl, (levels_none i.asked es (all_places end c)).0 (sym (all_levels end c) ∙ l.levels))

  pub when_statistics : (fault : Fault) (s : Site) → BadStatistics i fault s → When i fault s
  unfolding When
  when_statistics fault s b =
      let (end, c, its_choice, levels) = its_records b.choice b.levelled in
      let calls = rw (← its_choice) at b.calls in
      let (same, d, whole) = (statistics_row i.asked i.trace c.before fault s).0 (sym (all_statistics end c) ∙ calls) in
      rw same (record { end = end; comes = c; levels = levels; differs = d }, whole)

  module _ (n end : ℕ) (c : ComesTo i end done) (levels : AtLevels i.asked c.before) (statistics : NoDifference i.asked i.trace c.before) (k : ℕ) (line : (entry_at c.before k).line ≡ n) where
    first_call : {fault : Fault} → FirstCall c.before k fault → (calls : List Entry → ℕ → Type 0) → calls c.before k → FirstReceive i n calls
    first_call f calls is =
        record {
          end = end;
          comes = c;
          levels = levels;
          statistics = statistics;
          place = k;
          within = f.within;
          its_line = line;
          is = is;
          first = λ j l. called_not c.before j (f.none_before j l);
        }

    when_called : {fault : Fault} → RowAt c.before k fault → FirstCall c.before k fault → When i fault (whole_line n)
    unfolding When
    when_called (send_row r) f = (first_call f NoSend r, refl)
    when_called (length_row r) f = (first_call f LongReceive r, refl)

  pub when_receive : (fault : Fault) (s : Site) → BadReceive i fault s → When i fault s
  when_receive fault s b =
      let (end, c, its_choice, levels) = its_records b.choice b.compared.levelled in
      let agree = rw (← its_choice) at b.compared.agree in
      let statistics = (statistics_none i.asked i.trace c.before).0 (sym (all_statistics end c) ∙ agree) in
      let calls = rw (← its_choice) at b.calls in
      let (k, f, site) = at_first_call c.before fault s (sym (ap matched_of (all_entries end c)) ∙ calls) in
      rw (← site) (when_called _ end c levels statistics k refl (call_row c.before k fault f.calls) f)
