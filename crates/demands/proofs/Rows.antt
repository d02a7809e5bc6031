-- Every call reaches its times or is in a row of the table, and stops as its row says: but for 16, which is decided after `reach`.
use Rattle.std.specs.Prelude.{Option, Result, Some, None, Ok, Err}
use Prim.Native.Nat.{ℕ}
use native.Mathlib.Omega.{arith}
use mathlib.Core.Path.{◌≡◌, refl, sym, ap, ◌∙◌}
use mathlib.Core.Logic.{◌⊎◌, inl, inr}
use mathlib.Core.Bool.{Bool, true, false}
use mathlib.Core.List.{List}
use lib.ListN.{length}
use lib.IntN.{ℤ}
use lib.Dec.{leb}
use Rattle.paper.specs.Numbers.{number_of}
use Rattle.paper.specs.Columns.{nowhere}
use Rattle.paper.specs.Levels.{levels_of}
use Rattle.paper.specs.Statistics.{statistics_of}
use Rattle.paper.specs.Matching.{matched_of}
use Rattle.paper.specs.Clock.{Settled, impossible, settled, settle}
use Rattle.paper.specs.Answer.{Inputs, given, longest, heard, right_sizes, low_latencies, stopped, reach}
use Rattle.paper.specs.declared.Choice.{Choice}
use Rattle.paper.specs.declared.Fault.{Fault}
use Rattle.paper.specs.declared.Site.{Site}
use Rattle.paper.specs.declared.Refusal.{Refusal}
use Rattle.rounds.proofs.Meaning.{impossible_iff}
use Rattle.demands.specs.Steps.{Chosen, RightSizes, LowLatencies, Begun, reading, entries, Read, Levelled, Compared, Matched, waits}
use Rattle.demands.specs.Rows.{BadForm, BadStamp, UnlistedStrict, NotHandled, BadPlace, NoMessage, NoSend, LongReceive}
use Rattle.demands.specs.Table.{When}
use Rattle.demands.proofs.Stops.{OfALine, BadLine}
use Rattle.demands.proofs.Tests.{untold, sizes_tell, lows_tell, short_tells, unchosen, neither}
use Rattle.demands.proofs.Closed.{waits_closed}
use Rattle.demands.proofs.LineRows.{form_row, stamp_row, strict_row, handled_row, place_row, message_row}
use Rattle.demands.proofs.ReceiveRows.{no_send_calls, long_receive_calls}
use Rattle.demands.proofs.Said.{end_stops, field_stops, backwards_stops, many_stops, levels_stop, statistics_stop, call_stops, when_line, when_levels, when_statistics, when_receive}
use Rattle.demands.proofs.Reached.{reach_choice, reach_length, reach_latency, reach_long, reach_line, reach_levels, reach_statistics, reach_receive, reach_times}

-- a call that has times
pub record Timed (i : Inputs) : Type 0 where
  pub choice : Choice
  pub rounds : ℕ
  pub times : List ℤ
  pub matched : Matched i choice
  pub settles : settle (waits i choice) ≡ settled rounds times

module _ (i : Inputs) where
  -- ---- times, or some row

  abbrev Row : Type 0
  Row = (fault : Fault) × (s : Site) × When i fault s

  module _ (choice : Choice) where
    on_times : Matched i choice → (s : Settled) → settle (waits i choice) ≡ s → Timed i ⊎ Row
    unfolding When
    on_times m impossible e = inr (Fault.NoTimes, nowhere, (choice, m, (impossible_iff (waits i choice) (waits_closed i.asked.share i.latencies (entries i choice))).0 e, refl))
    on_times m (settled rounds times) e = inl (record { choice = choice; rounds = rounds; times = times; matched = m; settles = e })

    on_receives : Compared i choice → (s : Result Unit Refusal) → matched_of (entries i choice) ≡ s → Timed i ⊎ Row
    on_receives c (Ok tt) e = on_times (record { compared = c; matches = e }) _ refl
    on_receives c (Err refusal) e =
        inr (refusal.fault, refusal.site, when_receive i refusal.fault refusal.site (record { choice = choice; compared = c; calls = e }))

    on_statistics_lem : Levelled i choice → (s : Result Unit Refusal) → statistics_of i.asked i.trace (entries i choice) ≡ s → Timed i ⊎ Row
    on_statistics_lem l (Ok tt) e = on_receives (record { levelled = l; agree = e }) _ refl
    on_statistics_lem l (Err refusal) e =
        inr (refusal.fault, refusal.site, when_statistics i refusal.fault refusal.site (record { choice = choice; levelled = l; calls = e }))

    on_levels_lem : Read i choice → (s : Result Unit Refusal) → levels_of i.asked (entries i choice) ≡ s → Timed i ⊎ Row
    on_levels_lem r (Ok tt) e = on_statistics_lem (record { read = r; levels = e }) _ refl
    on_levels_lem r (Err refusal) e =
        inr (refusal.fault, refusal.site, when_levels i refusal.fault refusal.site (record { choice = choice; read = r; calls = e }))

    on_lines : Begun i choice → (s : Result Unit Refusal) → (reading i choice).stop ≡ s → Timed i ⊎ Row
    on_lines b (Ok tt) e = on_levels_lem (record { begun = b; whole = e }) _ refl
    on_lines b (Err refusal) e =
        inr (refusal.fault, refusal.site, when_line i refusal.fault refusal.site (record { choice = choice; begun = b; stops = e }))

    on_size : Chosen i choice → RightSizes i → LowLatencies i → (b : Bool) → leb (length i.trace) longest ≡ b → Timed i ⊎ Row
    unfolding When
    on_size c l h true e = on_lines (record { chosen = c; sizes = l; low = h; short = (short_tells i).holds e }) _ refl
    on_size c l h false e = inr (Fault.LongTrace, nowhere, (choice, c, l, h, untold (short_tells i) e, refl))

    on_latencies : Chosen i choice → RightSizes i → (b : Bool) → low_latencies i.latencies ≡ b → Timed i ⊎ Row
    unfolding When
    on_latencies c l true e = on_size c l ((lows_tell i).holds e) _ refl
    on_latencies c l false e = inr (Fault.HighLatency, nowhere, (choice, c, l, untold (lows_tell i) e, refl))

    on_sizes : Chosen i choice → (b : Bool) → right_sizes (given i) ≡ b → Timed i ⊎ Row
    unfolding When
    on_sizes c true e = on_latencies c ((sizes_tell i).holds e) _ refl
    on_sizes c false e = inr (Fault.WrongLength, nowhere, (choice, c, untold (sizes_tell i) e, refl))

  on_choice_lem : (o : Option Choice) → heard i.asked ≡ o → Timed i ⊎ Row
  unfolding When
  on_choice_lem None e = inr (Fault.BadChoice, nowhere, (neither i.asked e, refl))
  on_choice_lem (Some choice) e = on_sizes choice e _ refl

  pub reached : Timed i ⊎ Row
  reached = on_choice_lem _ refl

  -- ---- where a row stops

  -- 5 to 12 are where the reading stops
  pub row_line : (fault : Fault) (s : Site) → OfALine fault → When i fault s → BadLine i fault s
  unfolding When number_of
  row_line Fault.BadChoice s (low, high) w = absurd (omega arith)
  row_line Fault.WrongLength s (low, high) w = absurd (omega arith)
  row_line Fault.HighLatency s (low, high) w = absurd (omega arith)
  row_line Fault.LongTrace s (low, high) w = absurd (omega arith)
  row_line Fault.Form s n (inl e) = end_stops i s e
  row_line Fault.Form s n (inr f) = field_stops i s Fault.Form (λ choice. BadForm) (λ choice l k. form_row) f
  row_line Fault.Stamp s n f = field_stops i s Fault.Stamp (λ choice. BadStamp) (λ choice l k. stamp_row) f
  row_line Fault.Unlisted s n f = field_stops i s Fault.Unlisted UnlistedStrict (λ choice l k. strict_row) f
  row_line Fault.NotHandled s n f = field_stops i s Fault.NotHandled (λ choice. NotHandled) (λ choice l k. handled_row) f
  row_line Fault.Place s n f = field_stops i s Fault.Place (λ choice. BadPlace) (λ choice l k. place_row) f
  row_line Fault.NoMessage s n f = field_stops i s Fault.NoMessage (λ choice. NoMessage) (λ choice l k. message_row) f
  row_line Fault.Backwards s n (at, r, e) = backwards_stops i s at r e
  row_line Fault.TooMany s n (at, r, e) = many_stops i s at r e
  row_line Fault.NoSend s (low, high) w = absurd (omega arith)
  row_line Fault.LongReceive s (low, high) w = absurd (omega arith)
  row_line Fault.NoTimes s (low, high) w = absurd (omega arith)
  row_line Fault.NoRoom s (low, high) w = absurd (omega arith)
  row_line Fault.OtherLevels s (low, high) w = absurd (omega arith)
  row_line Fault.SharedProcessor s n w = absurd w
  row_line Fault.OtherStatistics s (low, high) w = absurd (omega arith)
  row_line Fault.NoPlace s n w = absurd w

  of_line : (fault : Fault) (s : Site) → OfALine fault → When i fault s → (reach (given i) ≡ stopped fault s) ⊎ (fault ≡ Fault.NoRoom)
  of_line fault s n w = inl (reach_line i fault s (row_line fault s n w))

  pub row_stops : (fault : Fault) (s : Site) → When i fault s → (reach (given i) ≡ stopped fault s) ⊎ (fault ≡ Fault.NoRoom)
  unfolding When number_of
  row_stops Fault.BadChoice s (unheard, e) = inl (reach_choice i (unchosen i.asked unheard) ∙ ap (stopped Fault.BadChoice) (sym e))
  row_stops Fault.WrongLength s (choice, c, l, e) = inl (reach_length i choice c l ∙ ap (stopped Fault.WrongLength) (sym e))
  row_stops Fault.HighLatency s (choice, c, l, h, e) = inl (reach_latency i choice c l h ∙ ap (stopped Fault.HighLatency) (sym e))
  row_stops Fault.LongTrace s (choice, c, l, h, short, e) = inl (reach_long i choice c l h short ∙ ap (stopped Fault.LongTrace) (sym e))
  row_stops Fault.Form s w = of_line Fault.Form s (omega arith, omega arith) w
  row_stops Fault.Stamp s w = of_line Fault.Stamp s (omega arith, omega arith) w
  row_stops Fault.Unlisted s w = of_line Fault.Unlisted s (omega arith, omega arith) w
  row_stops Fault.NotHandled s w = of_line Fault.NotHandled s (omega arith, omega arith) w
  row_stops Fault.Place s w = of_line Fault.Place s (omega arith, omega arith) w
  row_stops Fault.NoMessage s w = of_line Fault.NoMessage s (omega arith, omega arith) w
  row_stops Fault.Backwards s w = of_line Fault.Backwards s (omega arith, omega arith) w
  row_stops Fault.TooMany s w = of_line Fault.TooMany s (omega arith, omega arith) w
  row_stops Fault.OtherLevels s (o, e) = inl (reach_levels i Fault.OtherLevels s (levels_stop i s o e))
  row_stops Fault.SharedProcessor s never = absurd never
  row_stops Fault.OtherStatistics s (o, e) = inl (reach_statistics i Fault.OtherStatistics s (statistics_stop i s o e))
  row_stops Fault.NoPlace s never = absurd never
  row_stops Fault.NoSend s (f, e) = inl (reach_receive i Fault.NoSend s (call_stops i s Fault.NoSend NoSend no_send_calls f e))
  row_stops Fault.LongReceive s (f, e) = inl (reach_receive i Fault.LongReceive s (call_stops i s Fault.LongReceive LongReceive long_receive_calls f e))
  row_stops Fault.NoTimes s (choice, m, none-sound, e) =
      inl (reach_times i choice m ((impossible_iff (waits i choice) (waits_closed i.asked.share i.latencies (entries i choice))).1 none-sound)
      ∙ ap (stopped Fault.NoTimes) (sym e))
  row_stops Fault.NoRoom s h = inr refl
