-- A trace by itself: what stops its reading is what a judging call on it is refused for, 4 to 12.
use Rattle.std.specs.Prelude.{Some, Ok}
use Rattle.std.proofs.lemmas.Option.{same_Some}
use Prim.Native.Nat.{ℕ, ◌≤◌}
use native.Mathlib.Omega.{arith}
use native.Mathlib.Decide.{ℕ_discrete, dec_le}
use mathlib.Core.Path.{◌≡◌, refl, sym, ap, ◌∙◌}
use mathlib.Core.List.{List}
use lib.ListN.{length, length-replicate, get_or-replicate}
use lib.IntN.{pos}
use borrow.Author.Tests.{le-leb, lt-leb}
use Rattle.paper.specs.Numbers.{number_of}
use Rattle.paper.specs.Columns.{nowhere, refused_at}
use Rattle.paper.specs.Reading.{Reading, lines_of, start}
use Rattle.paper.specs.Answer.{given, most, longest, choice_of, heard}
use Rattle.paper.specs.Merging.{most_alone, read_alone, stop_alone, tally_of, lines_in}
use Rattle.paper.specs.declared.Choice.{Choice}
use Rattle.paper.specs.declared.Fault.{Fault}
use Rattle.paper.specs.declared.Site.{Site}
use Rattle.paper.proofs.Refusals.{same_fault, same_site}
use Rattle.forms.proofs.Tests.{never}
use Rattle.reading.specs.Joined.{AllEnded, line_count}
use Rattle.reading.proofs.Along.{Reads, along}
use Rattle.reading.proofs.Counted.{all_ended, line_count_lem}
use Rattle.demands.specs.Steps.{Chosen, RightSizes, LowLatencies, Begun, reading, entries, Read}
use Rattle.demands.specs.Table.{When}
use Rattle.demands.proofs.Numbers.{one_fault}
use Rattle.demands.proofs.Stops.{BadLine}
use Rattle.demands.proofs.Said.{when_line, line_number}
use Rattle.demands.proofs.Rows.{row_line}
use Rattle.merges.specs.Parts.{alone}
use Rattle.merges.specs.Table.{OfATrace}

-- ---- nothing is refused before the trace

right_sizes : (n : ℕ) (s : List ℕ) → RightSizes (alone n s)
unfolding alone most
right_sizes n s = (length-replicate {A = ℕ} 4096 0, length-replicate 2048 (pos 0), omega arith)

low_latencies : (n : ℕ) (s : List ℕ) → LowLatencies (alone n s)
unfolding alone
low_latencies n s k l = rw (get_or-replicate {A = ℕ} 4096 k 0 0 (rw length-replicate at l)) (omega arith)

pub alone_chosen : (n : ℕ) (s : List ℕ) (choice : Choice) → choice_of n ≡ Some choice → Chosen (alone n s) choice
unfolding alone heard
alone_chosen n s choice e = e

pub chosen_alone : (n : ℕ) (s : List ℕ) (choice : Choice) → Chosen (alone n s) choice → choice_of n ≡ Some choice
unfolding alone heard
chosen_alone n s choice e = e

-- what a caller names is one choice
pub one_choice : (n : ℕ) (a b : Choice) → choice_of n ≡ Some a → choice_of n ≡ Some b → a ≡ b
one_choice n a b p q = same_Some a b (sym p ∙ q)

-- ---- its lines

pub alone_reading : (n : ℕ) (s : List ℕ) (choice : Choice) → reading (alone n s) choice ≡ read_alone choice s
unfolding alone most most_alone
alone_reading n s choice = refl

read_stop : (n : ℕ) (s : List ℕ) (choice : Choice) → (reading (alone n s) choice).stop ≡ (read_alone choice s).stop
read_stop n s choice = ap (λ (r : Reading). r.stop) (alone_reading n s choice)

module _ (s : List ℕ) (choice : Choice) where
  stop_short : length s ≤ longest → stop_alone choice s ≡ (read_alone choice s).stop
  unfolding stop_alone
  stop_short short = rw (le-leb _ _ short)

  stop_long : ¬ (length s ≤ longest) → stop_alone choice s ≡ refused_at Fault.LongTrace nowhere
  unfolding stop_alone
  stop_long long = rw (lt-leb (length s) longest (omega arith))

module _ (n : ℕ) (s : List ℕ) where
  -- ---- 4 to 12 are not called for

  pub stop_read : (choice : Choice) → Read (alone n s) choice → stop_alone choice s ≡ Ok tt
  unfolding alone
  stop_read choice r = stop_short s choice r.begun.short ∙ sym (read_stop n s choice) ∙ r.whole

  module _ (choice : Choice) (chosen : choice_of n ≡ Some choice) where
    begun : length s ≤ longest → Begun (alone n s) choice
    unfolding alone
    begun short = record { chosen = alone_chosen n s choice chosen; sizes = right_sizes n s; low = low_latencies n s; short = short }

    pub read_of : stop_alone choice s ≡ Ok tt → Read (alone n s) choice
    read_of e = go (dec_le (length s) longest)
      where
        go : Dec (length s ≤ longest) → Read (alone n s) choice
        go (yes short) = record { begun = begun short; whole = read_stop n s choice ∙ sym (stop_short s choice short) ∙ e }
        go (no long) = let other = stop_long s choice long in never (cc)

    -- ---- one of them is

    pub row_of : (fault : Fault) (site : Site) → stop_alone choice s ≡ refused_at fault site → OfATrace fault × When (alone n s) fault site
    unfolding alone When number_of
    row_of fault site e = go (dec_le (length s) longest)
      where
        go : Dec (length s ≤ longest) → OfATrace fault × When (alone n s) fault site
        go (yes short) =
            let stops = read_stop n s choice ∙ sym (stop_short s choice short) ∙ e in
            let bad : BadLine (alone n s) fault site = record { choice = choice; begun = begun short; stops = stops } in
            let (low, high) = line_number (alone n s) fault site bad in
            ((omega (arith, low), high), when_line (alone n s) fault site bad)
        go (no long) =
            let refused : refused_at Fault.LongTrace nowhere ≡ refused_at fault site = sym (stop_long s choice long) ∙ e in
            rw (← same_fault refused, ← same_site refused)
            ((omega arith, omega arith), (choice, alone_chosen n s choice chosen, right_sizes n s, low_latencies n s, long, refl))

  pub stop_row : (fault : Fault) (site : Site) → OfATrace fault → When (alone n s) fault site
      → (choice : Choice) × (choice_of n ≡ Some choice) × (stop_alone choice s ≡ refused_at fault site)
  unfolding alone When number_of
  stop_row fault site (low, high) when = go (ℕ_discrete (number_of fault) (number_of Fault.LongTrace))
    where
      go : Dec (number_of fault ≡ number_of Fault.LongTrace)
          → (choice : Choice) × (choice_of n ≡ Some choice) × (stop_alone choice s ≡ refused_at fault site)
      go (yes e) =
          let same = one_fault fault Fault.LongTrace e in
          let (choice, chosen, lengths, lows, long, there) = rw same at when in
          (choice, chosen_alone n s choice chosen, stop_long s choice long ∙ rw (same, there))
      go (no h) =
          let bad = row_line (alone n s) fault site (omega (arith, low, h), high) when in (
            bad.choice,
            chosen_alone n s bad.choice bad.begun.chosen,
            stop_short s bad.choice bad.begun.short ∙ sym (read_stop n s bad.choice) ∙ bad.stops,
          )

-- ---- a trace that is read to its end

module _ (n : ℕ) (s : List ℕ) (choice : Choice) (r : Read (alone n s) choice) where
  pub alone_along : Reads choice (most (given (alone n s))) (lines_of s) 1 start (entries (alone n s) choice) (reading (alone n s) choice).state
  unfolding alone
  alone_along = along choice _ s r.whole

  pub alone_ended : AllEnded (lines_of s)
  alone_ended = all_ended alone_along

  -- each line is listed or passed over
  pub alone_counted : lines_in (tally_of (reading (alone n s) choice)) ≡ line_count (lines_of s)
  unfolding start
  alone_counted = omega (arith, line_count_lem alone_along)
