-- What joined traces leave in the room: the merged bytes at its start, and what was behind them as it was.
use Rattle.std.specs.Prelude.{Ok}
use Prim.Native.Nat.{ℕ, ◌+◌}
use native.Mathlib.Omega.{arith}
use mathlib.Core.Path.{◌≡◌, sym, ap, ◌∙◌}
use mathlib.Core.List.{List, ◌++◌}
use lib.ListN.{length, drop, length-append, length-drop}
use lib.Seq.{take-append_seam, drop-append_seam}
use Rattle.paper.specs.Reading.{lines_of}
use Rattle.paper.specs.Merging.{merged_bytes, tally_of, lines_in, Merging, Mergence, joined, merged_of, MergeOutcome, join, merge}
use Rattle.paper.specs.declared.Choice.{Choice}
use Rattle.paper.specs.declared.Tally.{Tally}
use Rattle.paper.specs.declared.Joined.{Joined}
use Rattle.reading.specs.Joined.{line_count}
use Rattle.reading.specs.Mixed.{Mixed}
use Rattle.reading.proofs.MixedLines.{mixed_count}
use Rattle.demands.specs.Steps.{reading}
use Rattle.merges.specs.Parts.{written, merged_trace, first, second, Joins}
use Rattle.merges.specs.Trace.{ToldOf}
use Rattle.merges.proofs.Alone.{alone_counted}
use Rattle.merges.proofs.Both.{both_lines, both_length}
use Rattle.merges.proofs.Steps.{leaves, join_joined}
use Rattle.merges.proofs.Refusals.{merge_is}

module _ (i : Merging) (j : Joins i) where
  abbrev bytes : List ℕ
  bytes = merged_bytes i.first i.second

  join_is : join i ≡ leaves i j.both
  join_is = join_joined i j.both j.apart j.fits

  written_is : written i ≡ length bytes
  unfolding merged_of joined
  written_is = ap (λ (o : MergeOutcome). o.answer.written) (merge_is i (leaves i j.both) join_is)

  room_is : (merge i).room ≡ bytes ++ drop (length bytes) i.room
  unfolding joined
  room_is = ap (λ (o : MergeOutcome). o.room) (merge_is i (leaves i j.both) join_is)

  pub trace_is : merged_trace i ≡ bytes
  trace_is = rw (written_is, room_is) (take-append_seam bytes (drop (length bytes) i.room))

  pub trace_long : length (merged_trace i) ≡ length i.first + length i.second
  trace_long = rw trace_is (both_length i j.both)

  pub written_sum : written i ≡ length i.first + length i.second
  written_sum = written_is ∙ both_length i j.both

  pub room_length : length (merge i).room ≡ length i.room
  room_length = rw (room_is, length-append, length-drop) (omega (arith, both_length i j.both, j.fits))

  pub room_after : drop (written i) (merge i).room ≡ drop (written i) i.room
  room_after = rw (written_is, room_is) (drop-append_seam bytes (drop (length bytes) i.room))

  pub lines_mixed : Mixed (lines_of i.first) (lines_of i.second) (lines_of (merged_trace i))
  lines_mixed = rw trace_is (both_lines i j.both)

  -- ---- what is told beside the answer

  abbrev choice : Choice
  choice = j.both.choice

  abbrev tally : Tally
  tally = tally_of (reading (first i) choice)

  abbrev tally' : Tally
  tally' = tally_of (reading (second i) choice)

  -- every line is listed or passed over in its own trace
  counted : lines_in tally + lines_in tally' ≡ line_count (lines_of (merged_trace i))
  counted =
      rw (
        alone_counted i.choice i.first choice j.both.reads_first,
        alone_counted i.choice i.second choice j.both.reads_second,
      )
      (sym (mixed_count lines_mixed))

  pub all_told : (all : Joined) → (join i).joint ≡ Ok all → ToldOf i choice all
  unfolding joined
  all_told all e =
      let is = sym e ∙ ap (λ (m : Mergence). m.joint) join_is in
      let same : all ≡ record { lines = lines_in tally + lines_in tally'; written = length bytes; first = tally; second = tally' } = cc in
      record {
        lines = ap (λ (x : Joined). x.lines) same ∙ counted;
        bytes = ap (λ (x : Joined). x.written) same ∙ both_length i j.both;
        of_first =
            record { listed = ap (λ (x : Joined). x.first.listed) same; passed = ap (λ (x : Joined). x.first.passed) same };
        of_second =
            record { listed = ap (λ (x : Joined). x.second.listed) same; passed = ap (λ (x : Joined). x.second.passed) same };
      }
