-- The merged bytes judged: of 4 to 12 only 4 and 12 are given, by what the two traces have together.
use Rattle.std.specs.Prelude.{Some, None}
use Prim.Native.Nat.{ℕ, ◌+◌, ◌≤◌, ◌<◌}
use native.Mathlib.Omega.{arith}
use native.Mathlib.Decide.{dec_le}
use mathlib.Core.Path.{◌≡◌, refl, sym, ap, ◌∙◌}
use mathlib.Core.Logic.{◌⊎◌, inl, inr, ◌↔◌}
use mathlib.Core.Bool.{Bool, true, false, cond, ◌&&◌}
use mathlib.Core.List.{List}
use lib.ListN.{length}
use lib.Dec.{leb}
use Rattle.paper.specs.Numbers.{number_of}
use Rattle.paper.specs.Columns.{nowhere, whole_line, refused_at}
use Rattle.paper.specs.Reading.{read_of}
use Rattle.paper.specs.Answer.{Inputs, given, most, longest, choice_of, heard}
use Rattle.paper.specs.Merging.{Merging}
use Rattle.paper.specs.declared.Asked.{Asked}
use Rattle.paper.specs.declared.Choice.{Choice}
use Rattle.paper.specs.declared.Fault.{Fault}
use Rattle.paper.specs.declared.Site.{Site}
use Rattle.paper.proofs.Refusals.{same_fault}
use Rattle.forms.proofs.Tests.{never}
use Rattle.demands.specs.Parts.{number, site}
use Rattle.demands.specs.Steps.{Chosen, RightSizes, LowLatencies, Begun, reading, Accepted}
use Rattle.demands.specs.Table.{When}
use Rattle.demands.proofs.Stops.{BadLine}
use Rattle.demands.proofs.Said.{when_line}
use Rattle.demands.proofs.Rows.{row_line}
use Rattle.demands.proofs.Exactly.{answered}
use Rattle.demands.proofs.Refusals.{accepted_exactly, refused_exactly}
use Rattle.merges.specs.Parts.{merged_trace, Joins}
use Rattle.merges.specs.Trace.{listed_of_both, Judges}
use Rattle.merges.proofs.Alone.{one_choice}
use Rattle.merges.proofs.Both.{both_chosen}
use Rattle.merges.proofs.Left.{trace_long}
use Rattle.merges.proofs.Reread.{reads_whole, stops_full}

heard_choice : (a : Asked) (choice : Choice) → heard a ≡ Some choice → choice_of a.choice ≡ Some choice
unfolding heard
heard_choice a choice e = go (leb a.levels 1 && leb a.statistics 1) e
  where
    go : (t : Bool) → cond t (choice_of a.choice) None ≡ Some choice → choice_of a.choice ≡ Some choice
    go true e = e
    go false e = cc

module _ (i : Merging) (joins : Joins i) (j : Inputs) (judges : Judges i j) where
  abbrev choice : Choice
  choice = joins.both.choice

  same_choice : (c : Choice) → Chosen j c → c ≡ choice
  same_choice c chosen = one_choice i.choice c choice (rw judges.choice at (heard_choice j.asked c chosen)) (both_chosen i joins.both)

  reading_is : (reading j choice).stop ≡ (read_of choice (most (given j)) (merged_trace i)).stop
  reading_is = ap (λ (s : List ℕ). (read_of choice (most (given j)) s).stop) judges.trace

  -- ---- 5 to 12

  stops_many : (fault : Fault) (s : Site) → (reading j choice).stop ≡ refused_at fault s
      → (fault ≡ Fault.TooMany) × (most (given j) < listed_of_both i choice)
  stops_many fault s e = go (dec_le (listed_of_both i choice) (most (given j)))
    where
      go : Dec (listed_of_both i choice ≤ most (given j)) → (fault ≡ Fault.TooMany) × (most (given j) < listed_of_both i choice)
      go (yes h) = let end = (reads_whole i joins (most (given j)) h).ends in never (cc)
      go (no h) =
          let more : most (given j) < listed_of_both i choice = omega arith in
          let (n, full) = stops_full i joins (most (given j)) more in
          let refused : refused_at fault s ≡ refused_at Fault.TooMany (whole_line n) = sym e ∙ reading_is ∙ full in
          (same_fault refused, more)

  of_lines : 5 ≤ number j → number j ≤ 12 → (number j ≡ 12) × (most (given j) < listed_of_both i choice)
  unfolding number_of
  of_lines low high = go (answered j)
    where
      go : Accepted j ⊎ ((fault : Fault) × (s : Site) × When j fault s) → (number j ≡ 12) × (most (given j) < listed_of_both i choice)
      go (inl a) = absurd (omega (arith, (accepted_exactly j).1 a))
      go (inr (fault, s, when)) =
          let is = ((refused_exactly j fault s).1 when).0 in
          let bad = row_line j fault s (omega (arith, is), omega (arith, is)) when in
          let same = same_choice bad.choice bad.begun.chosen in
          let (many, more) = stops_many fault s (rw same at bad.stops) in
          (is ∙ ap number_of many, more)

  -- none of 5 to 11 is given
  pub no_bad_line : ¬ ((5 ≤ number j) × (number j ≤ 11))
  no_bad_line (low, high) = omega (arith, (of_lines low (omega (arith, high))).0, high)

  pub too_many_lem : Begun j choice → (number j ≡ 12) ↔ (most (given j) < listed_of_both i choice)
  unfolding number_of
  too_many_lem begun = (λ e. (of_lines (omega (arith, e)) (omega (arith, e))).1, of)
    where
      of : most (given j) < listed_of_both i choice → number j ≡ 12
      of h =
          let (n, full) = stops_full i joins (most (given j)) h in
          let bad : BadLine j Fault.TooMany (whole_line n) = record { choice = choice; begun = begun; stops = reading_is ∙ full } in
          ((refused_exactly j Fault.TooMany (whole_line n)).1 (when_line j Fault.TooMany (whole_line n) bad)).0

  -- ---- 4

  length_is : length j.trace ≡ length i.first + length i.second
  length_is = ap length judges.trace ∙ trace_long i joins

  pub too_long : Chosen j choice → RightSizes j → LowLatencies j → (number j ≡ 4) ↔ (longest < length i.first + length i.second)
  unfolding number_of When
  too_long chosen lengths low = (to, of)
    where
      to : number j ≡ 4 → longest < length i.first + length i.second
      to e =
          let (c, chosen₁, lengths₁, low₁, long, there) = (refused_exactly j Fault.LongTrace (site j)).0 (e, refl) in
          omega (arith, length_is, long)

      of : longest < length i.first + length i.second → number j ≡ 4
      of h = ((refused_exactly j Fault.LongTrace nowhere).1 (choice, chosen, lengths, low, λ short. omega (arith, length_is, short, h), refl)).0
