-- The sixth change request holds of the merging call. specs/ says what each field is, with the request's sentence.
use Rattle.std.specs.Prelude.{Some}
use mathlib.Core.Path.{◌≡◌, sym, ◌∙◌}
use mathlib.Core.List.{[]}
use Rattle.paper.specs.Answer.{choice_of}
use Rattle.paper.specs.Merging.{Merging}
use Rattle.paper.specs.declared.Choice.{Choice}
use Rattle.merges.specs.Parts.{merged_trace, Joins}
use Rattle.merges.specs.Trace.{MergedTrace}
use Rattle.merges.specs.Request.{Merges}
use Rattle.merges.proofs.Lines.{first_empty, second_empty}
use Rattle.merges.proofs.Stamps.{stamped}
use Rattle.merges.proofs.Alone.{one_choice}
use Rattle.merges.proofs.Both.{both_chosen}
use Rattle.merges.proofs.Rows.{answered}
use Rattle.merges.proofs.Refusals.{joined_exactly, refused_exactly, refusal_keeps}
use Rattle.merges.proofs.Columns.{column_exactly}
use Rattle.merges.proofs.Left.{trace_is, written_sum, room_length, room_after, lines_mixed, all_told}
use Rattle.merges.proofs.Reread.{reads_whole}
use Rattle.merges.proofs.Judged.{no_bad_line, too_long, too_many_lem}

module _ (i : Merging) (joins : Joins i) where
  none_first : i.first ≡ [] → merged_trace i ≡ i.second
  none_first e = trace_is i joins ∙ rw e (first_empty i.second)

  none_second : i.second ≡ [] → merged_trace i ≡ i.first
  none_second e = trace_is i joins ∙ rw e (second_empty i.first)

  merged_trace_lem : MergedTrace i joins.both.choice
  merged_trace_lem =
      record {
        bytes = trace_is i joins;
        lines = lines_mixed i joins;
        long = written_sum i joins;
        places = room_length i joins;
        after = room_after i joins;
        told = all_told i joins;
        first_empty = none_first;
        second_empty = none_second;
        reads = reads_whole i joins;
        no_bad_line = no_bad_line i joins;
        too_long = too_long i joins;
        too_many_lem = too_many_lem i joins;
      }

  merged_under : (choice : Choice) → choice_of i.choice ≡ Some choice → MergedTrace i choice
  merged_under choice e = rw (one_choice i.choice joins.both.choice choice (both_chosen i joins.both) e) at merged_trace_lem

pub merging_request : Merges
merging_request =
    record {
      answered = answered;
      accepted = joined_exactly;
      refused = refused_exactly;
      columns = column_exactly;
      kept = refusal_keeps;
      stamps = stamped;
      merged = λ i choice chosen e. merged_under i ((joined_exactly i).0 e) choice chosen;
      one_outcome = λ i a b p q. p ∙ sym q;
    }
