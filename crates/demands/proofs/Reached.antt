-- How far a call reaches: what `reach` comes to where a check fails, and where all of them pass. Whatever a call ends with, it begins
-- with these laws.
use Rattle.std.specs.Prelude.{None}
use Prim.Native.Nat.{ℕ}
use mathlib.Core.Path.{◌≡◌, ap, ◌∙◌}
use mathlib.Core.List.{List}
use lib.IntN.{ℤ}
use Rattle.paper.specs.Columns.{nowhere}
use Rattle.paper.specs.Levels.{levels_of}
use Rattle.paper.specs.Statistics.{statistics_of}
use Rattle.paper.specs.Matching.{matched_of}
use Rattle.paper.specs.Clock.{impossible, settled, settle}
use Rattle.paper.specs.Answer.{Inputs, given, heard, Found, stopped, found, reach, on_choice, on_read, on_levels, on_statistics, on_matched, on_settled}
use Rattle.paper.specs.declared.Choice.{Choice}
use Rattle.paper.specs.declared.Fault.{Fault}
use Rattle.paper.specs.declared.Site.{Site}
use Rattle.demands.specs.Steps.{Chosen, RightSizes, LowLatencies, ShortTrace, Begun, reading, entries, Read, Levelled, Compared, Matched, waits}
use Rattle.demands.proofs.Stops.{BadLine, BadLevels, BadStatistics, BadReceive}
use Rattle.demands.proofs.Tests.{not_told, sizes_tell, lows_tell, short_tells}

-- what a call has found that settles so
abbrev pub found_by : Inputs → Choice → ℕ → List ℤ → Found
found_by i choice rounds times = record { choice = choice; reading = reading i choice; rounds = rounds; times = times }

module _ (i : Inputs) where
  pub reach_choice : heard i.asked ≡ None → reach (given i) ≡ stopped Fault.BadChoice nowhere
  unfolding reach on_choice
  reach_choice e = rw e

  module _ (choice : Choice) (chosen : Chosen i choice) where
    pub reach_length : ¬ RightSizes i → reach (given i) ≡ stopped Fault.WrongLength nowhere
    unfolding reach on_choice
    reach_length l = rw (chosen, not_told (sizes_tell i) l)

    module _ (sizes : RightSizes i) where
      pub reach_latency : ¬ LowLatencies i → reach (given i) ≡ stopped Fault.HighLatency nowhere
      unfolding reach on_choice
      reach_latency h = rw (chosen, (sizes_tell i).told sizes, not_told (lows_tell i) h)

      pub reach_long : LowLatencies i → ¬ ShortTrace i → reach (given i) ≡ stopped Fault.LongTrace nowhere
      unfolding reach on_choice
      reach_long low h = rw (chosen, (sizes_tell i).told sizes, (lows_tell i).told low, not_told (short_tells i) h)

  module _ (choice : Choice) where
    reach_begun : Begun i choice → reach (given i) ≡ on_read (given i) choice (reading i choice) (reading i choice).stop
    unfolding reach on_choice
    reach_begun b = rw (b.chosen, (sizes_tell i).told b.sizes, (lows_tell i).told b.low, (short_tells i).told b.short)

    reach_read : Read i choice → reach (given i) ≡ on_levels (given i) choice (reading i choice) (levels_of i.asked (entries i choice))
    unfolding on_read
    reach_read r = reach_begun r.begun ∙ ap (on_read (given i) choice (reading i choice)) r.whole

    reach_levelled : Levelled i choice
        → reach (given i) ≡ on_statistics (given i) choice (reading i choice) (statistics_of i.asked i.trace (entries i choice))
    unfolding on_levels
    reach_levelled l = reach_read l.read ∙ ap (on_levels (given i) choice (reading i choice)) l.levels

    reach_compared : Compared i choice → reach (given i) ≡ on_matched (given i) choice (reading i choice) (matched_of (entries i choice))
    unfolding on_statistics
    reach_compared c = reach_levelled c.levelled ∙ ap (on_statistics (given i) choice (reading i choice)) c.agree

    reach_matched : Matched i choice → reach (given i) ≡ on_settled choice (reading i choice) (settle (waits i choice))
    unfolding on_matched
    reach_matched m = reach_compared m.compared ∙ ap (on_matched (given i) choice (reading i choice)) m.matches

    pub reach_times : Matched i choice → settle (waits i choice) ≡ impossible → reach (given i) ≡ stopped Fault.NoTimes nowhere
    unfolding on_settled
    reach_times m e = reach_matched m ∙ ap (on_settled choice (reading i choice)) e

    pub reach_found : Matched i choice → (rounds : ℕ) (times : List ℤ) → settle (waits i choice) ≡ settled rounds times
        → reach (given i) ≡ found (found_by i choice rounds times)
    unfolding on_settled
    reach_found m rounds times e = reach_matched m ∙ ap (on_settled choice (reading i choice)) e

  pub reach_line : (fault : Fault) (s : Site) → BadLine i fault s → reach (given i) ≡ stopped fault s
  unfolding on_read
  reach_line fault s b = reach_begun b.choice b.begun ∙ ap (on_read (given i) b.choice (reading i b.choice)) b.stops

  pub reach_levels : (fault : Fault) (s : Site) → BadLevels i fault s → reach (given i) ≡ stopped fault s
  unfolding on_levels
  reach_levels fault s b = reach_read b.choice b.read ∙ ap (on_levels (given i) b.choice (reading i b.choice)) b.calls

  pub reach_statistics : (fault : Fault) (s : Site) → BadStatistics i fault s → reach (given i) ≡ stopped fault s
  unfolding on_statistics
  reach_statistics fault s b =
      reach_levelled b.choice b.levelled ∙ ap (on_statistics (given i) b.choice (reading i b.choice)) b.calls

  pub reach_receive : (fault : Fault) (s : Site) → BadReceive i fault s → reach (given i) ≡ stopped fault s
  unfolding on_matched
  reach_receive fault s b = reach_compared b.choice b.compared ∙ ap (on_matched (given i) b.choice (reading i b.choice)) b.calls
