-- Two calls on one trace, of which the same is asked but for the table and the share: they read the same records, and with a table and a share
-- that are nowhere lower no time is earlier and nothing impossible gets times.
use Rattle.std.specs.Prelude.{Option, Some, None, Ok}
use Prim.Native.Nat.{ℕ, ◌+◌, ◌*◌, ◌≤◌, ◌<◌}
use native.Mathlib.Omega.{arith}
use mathlib.Core.Path.{◌≡◌, refl, ap, ◌∙◌}
use mathlib.Core.List.{List}
use lib.ListN.{length, get_or}
use lib.Signed.{◌≤ℤ◌}
use Rattle.paper.specs.Clock.{settled, settle}
use Rattle.paper.specs.Levels.{levels_of}
use Rattle.paper.specs.Statistics.{statistics_of}
use Rattle.paper.specs.Matching.{entry_at, last_on, latency_for, gap_from, waits_of}
use Rattle.paper.specs.Reading.{Reading, read_of}
use Rattle.paper.specs.Answer.{Inputs, given, most, heard}
use Rattle.paper.specs.declared.Asked.{Asked}
use Rattle.paper.specs.declared.Choice.{Choice}
use Rattle.paper.specs.declared.Entry.{Entry}
use Rattle.paper.specs.declared.Role.{Role}
use Rattle.paper.specs.declared.Role.TheVariants.{Neither, Send, Receive}
use Rattle.reading.proofs.Along.{one_reading}
use Rattle.rounds.specs.Compare.{Slower}
use Rattle.rounds.proofs.Gaps.{gap_more}
use Rattle.rounds.proofs.Latency.{slower_sound, slower_later}
use Rattle.demands.specs.Steps.{Chosen, RightSizes, LowLatencies, reading, entries, original, Read, Matched, waits, Accepted}
use Rattle.demands.specs.Parts.{number, listed, time}
use Rattle.demands.specs.Shares.{sharing}
use Rattle.demands.proofs.Tests.{same_most}
use Rattle.demands.proofs.Named.{heard_shared, levels_shared, statistics_shared}
use Rattle.demands.proofs.Times.{closed, one_choice, listed_is, time_is}
use Rattle.demands.proofs.Impossible.{impossible_matched, matched_impossible}

-- ---- the same waits with other weights

module _ (from to : List ℕ) (higher : (k : ℕ) → get_or from k 0 ≤ get_or to k 0) where
  latency_higher : (processor : ℕ) (r : Role) → latency_for from processor r ≤ latency_for to processor r
  unfolding latency_for
  latency_higher processor Neither = omega arith
  latency_higher processor (Send m) = omega arith
  latency_higher processor (Receive m) = higher (64 * m.peer + processor)

  module _ (share more : ℕ) (up : share ≤ more) (es : List Entry) where
    gap_higher : (k : ℕ) (o : Option ℕ) → gap_from share es k o ≤ gap_from more es k o
    unfolding gap_from
    gap_higher k None = omega arith
    gap_higher k (Some j) = gap_more share more (original es j) (original es k) up

    slower : Slower (waits_of share from es) (waits_of more to es)
    unfolding waits_of
    slower =
        record {
          size = refl;
          original = λ k l. refl;
          before = λ k l. refl;
          gap = λ k l. gap_higher k (last_on es (entry_at es k).body.processor k);
          send = λ k l. refl;
          latency = λ k l. latency_higher (entry_at es k).body.processor (entry_at es k).body.role;
        }

-- ---- the two calls

pub record OneTrace (i j : Inputs) : Type 0 where
  pub trace : j.trace ≡ i.trace
  pub asked : j.asked ≡ sharing j.asked.share i.asked

module _ (i j : Inputs) (one : OneTrace i j) where
  chosen_too : (choice : Choice) → Chosen i choice → Chosen j choice
  chosen_too choice c = ap heard one.asked ∙ heard_shared j.asked.share i.asked ∙ c

  -- ---- the earlier checks pass under both

  module _ (places : length j.times ≡ length i.times) (choice : Choice) where
    same_reading : reading j choice ≡ reading i choice
    same_reading =
        ap (λ (n : ℕ). read_of choice n j.trace) (same_most (given j) (given i) places) ∙ ap (read_of choice (most (given i))) one.trace

    same_entries : entries j choice ≡ entries i choice
    same_entries = ap (λ (r : Reading). r.entries) same_reading

    pub matched_too : (RightSizes i → RightSizes j) → (LowLatencies i → LowLatencies j) → Matched i choice → Matched j choice
    matched_too sizes lows m =
        let read = m.compared.levelled.read in
        record {
          compared = record {
            levelled = record {
              read = record {
                begun = record {
                  chosen = chosen_too choice read.begun.chosen;
                  sizes = sizes read.begun.sizes;
                  low = lows read.begun.low;
                  short = rw one.trace read.begun.short;
                };
                whole = rw same_reading read.whole;
              };
              levels = ap (λ (x : Asked). levels_of x (entries j choice)) one.asked
                  ∙ levels_shared j.asked.share i.asked (entries j choice) ∙ ap (levels_of i.asked) same_entries
                  ∙ m.compared.levelled.levels;
            };
            agree = ap (λ (x : Asked). statistics_of x j.trace (entries j choice)) one.asked
                ∙ statistics_shared j.asked.share i.asked j.trace (entries j choice)
                ∙ ap (λ (s : List ℕ). statistics_of i.asked s (entries j choice)) one.trace
                ∙ ap (statistics_of i.asked i.trace) same_entries ∙ m.compared.agree;
          };
          matches = rw same_entries m.matches;
        }

  module _ (up : i.asked.share ≤ j.asked.share) (higher : (k : ℕ) → get_or i.latencies k 0 ≤ get_or j.latencies k 0) where
    slower_waits : (choice : Choice) → entries j choice ≡ entries i choice → Slower (waits i choice) (waits j choice)
    slower_waits choice same = rw same (slower i.latencies j.latencies higher i.asked.share j.asked.share up (entries i choice))

    -- ---- nothing impossible gets times

    pub stays_impossible : length j.times ≡ length i.times → (RightSizes i → RightSizes j) → (LowLatencies i → LowLatencies j)
        → number i ≡ 15 → number j ≡ 15
    stays_impossible places sizes lows e =
        let (choice, m, none-sound) = impossible_matched i e in
        matched_impossible j choice (matched_too places choice sizes lows m)
        (λ x s. none-sound x (slower_sound (waits i choice) (waits j choice) (slower_waits choice (same_entries places choice)) s))

    -- ---- no time is earlier

    -- both are read to their end, so it does not matter how many places each was lent
    same_whole : (choice : Choice) → Read i choice → (reading j choice).stop ≡ Ok tt → entries j choice ≡ entries i choice
    same_whole choice r e =
        let read : (read_of choice (most (given i)) j.trace).stop ≡ Ok tt = rw one.trace r.whole in
        ap (λ (r : Reading). r.entries)
        (one_reading choice (most (given j)) (most (given i)) j.trace e read ∙ ap (read_of choice (most (given i))) one.trace)

    pub none_earlier : (a : Accepted i) (b : Accepted j) → (k : ℕ) → k < listed i → time i k ≤ℤ time j k
    unfolding waits_of
    none_earlier a b k l =
        let read = a.matched.compared.levelled.read in
        let read_new = b.matched.compared.levelled.read in
        let chosen = chosen_too a.choice read.begun.chosen in
        let same : b.choice ≡ a.choice = one_choice j b.choice a.choice read_new.begun.chosen chosen in
        let same_records : entries j a.choice ≡ entries i a.choice = same_whole a.choice read (rw same at read_new.whole) in
        let inside : k < length (entries i a.choice) = rw (← listed_is i a) l in
        let settles_new : settle (waits j a.choice) ≡ settled b.rounds b.times = rw (← same) b.settles in
        rw (time_is i a k inside, time_is j b k (rw (same, same_records) inside))
        (slower_later (waits i a.choice) (waits j a.choice) (slower_waits a.choice same_records) (closed i a.choice)
        (closed j a.choice) a.settles settles_new k inside)
