-- "Accepted: verdict 1 consistent, 2 corrected, 3 nothing to judge; counts of listed, passed over, matched messages, sends not
-- received, rounds, and the written trace's length": what an accepted call tells of its records, and what it leaves.
use Rattle.std.specs.Prelude.{ℕ, ◌+◌, ◌-◌, ◌≤◌, ◌<◌, ◌≡◌, ◌↔◌, false, length, drop, ◌<ℤ◌}
use Rattle.paper.specs.Clock.{Repeats, time_at}
use Rattle.paper.specs.Columns.{nowhere}
use Rattle.paper.specs.Reading.{lines_of}
use Rattle.paper.specs.Matching.{count_if, is_send, matched_count}
use Rattle.paper.specs.Answer.{Inputs, judge, written as bytes}
use Rattle.paper.specs.declared.Choice.{Choice}
use Rattle.demands.specs.Records.{records_from, passed_in}
use Rattle.demands.specs.Parts.{site, verdict, listed, passed, matched, unreceived, rounds, written, time, corrected, written_trace}
use Rattle.demands.specs.Steps.{entries, original, waits}

-- "some time moved"
abbrev pub Moved : Inputs → Choice → Type 0
Moved i choice = (k : ℕ) × (k < listed i) × (original (entries i choice) k <ℤ time i k)

pub record AcceptedAnswer (i : Inputs) (choice : Choice) : Type 0 where
  pub no_line : site i ≡ nowhere
  -- "Lines count from 1."
  pub records : entries i choice ≡ records_from choice 1 (lines_of i.trace)
  pub lists : listed i ≡ length (entries i choice)
  pub passes : passed i ≡ passed_in choice (lines_of i.trace)
  pub matches : matched i ≡ matched_count (entries i choice)
  -- "sends not received"
  pub leaves : matched i + unreceived i ≡ count_if (λ e. is_send e.body.role) (entries i choice)
  -- "The rounds reported are the first round that the next one repeats: at most one less than the number of listed records, and 0
  -- for none."
  pub repeats : Repeats (waits i choice) (rounds i)
  pub first : (m : ℕ) → m < rounds i → Repeats (waits i choice) m → ⊥
  pub bound : rounds i ≤ listed i - 1
  -- "Verdict 3 exactly if no message matched; 2 exactly if some time moved; else 1."
  pub nothing : (verdict i ≡ 3) ↔ (matched i ≡ 0)
  pub moves : (verdict i ≡ 2) ↔ Moved i choice
  pub consistent : (verdict i ≡ 1) ↔ ((¬ (matched i ≡ 0)) × (¬ Moved i choice))
  -- "later places are untouched"
  pub places : length (judge i).times ≡ length i.times
  pub later : (k : ℕ) → listed i ≤ k → time i k ≡ time_at i.times k
  -- "The output room holds the written trace at its start and is untouched after it."
  pub writes : written_trace i ≡ bytes i choice (corrected i)
  -- "and the written trace's length", also where it fills the room
  pub written_length : written i ≡ length (bytes i choice (corrected i))
  pub after : drop (written i) (judge i).room ≡ drop (written i) i.room
  -- "unasked, the output room stays untouched"
  pub unasked : i.wanted ≡ false → (written i ≡ 0) × ((judge i).room ≡ i.room)
