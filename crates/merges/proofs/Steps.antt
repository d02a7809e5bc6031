-- How far a merging comes: what `join` comes to where a check fails, and where all of them pass.
use Rattle.std.specs.Prelude.{Some, None, Ok}
use Prim.Native.Nat.{ℕ, ◌+◌, ◌≤◌, ◌<◌}
use mathlib.Core.Path.{◌≡◌, ◌∙◌}
use mathlib.Core.List.{List}
use lib.ListN.{length}
use borrow.Author.Tests.{lt-ltb, le-ltb}
use Rattle.paper.specs.Columns.{nowhere, refused_at}
use Rattle.paper.specs.Answer.{choice_of}
use Rattle.paper.specs.Merging.{merged_bytes, stop_alone, tally_of, on_readings, on_second_trace, on_first_trace, both_of, Merging, Mergence, unmerged, joined, on_merged, on_both, on_heard, join}
use Rattle.paper.specs.declared.Choice.{Choice}
use Rattle.paper.specs.declared.Fault.{Fault}
use Rattle.paper.specs.declared.Site.{Site}
use Rattle.paper.specs.declared.Which.TheVariants.{Neither, First, Second}
use Rattle.demands.specs.Steps.{reading, entries}
use Rattle.demands.proofs.Tests.{not_told}
use Rattle.merges.specs.Parts.{first, second, Both, Shared}
use Rattle.merges.proofs.Alone.{alone_reading, stop_read}
use Rattle.merges.proofs.Both.{both_chosen, both_length}
use Rattle.merges.proofs.Shares.{shares_tell}

module _ (i : Merging) where
  pub join_choice : choice_of i.choice ≡ None → join i ≡ unmerged i Fault.BadChoice Neither nowhere
  unfolding join on_heard
  join_choice e = rw e

  -- ---- both traces by themselves

  module _ (choice : Choice) (chosen : choice_of i.choice ≡ Some choice) where
    join_chosen : join i ≡ on_both i (on_first_trace choice i.first i.second (stop_alone choice i.first))
    unfolding join on_heard both_of
    join_chosen = rw chosen

    pub join_first : (fault : Fault) (s : Site) → stop_alone choice i.first ≡ refused_at fault s → join i ≡ unmerged i fault First s
    unfolding on_both on_first_trace
    join_first fault s e = join_chosen ∙ rw e

    join_read : stop_alone choice i.first ≡ Ok tt → join i ≡ on_both i (on_second_trace choice i.first i.second (stop_alone choice i.second))
    unfolding on_first_trace
    join_read e = join_chosen ∙ rw e

    pub join_second : stop_alone choice i.first ≡ Ok tt → (fault : Fault) (s : Site) → stop_alone choice i.second ≡ refused_at fault s
        → join i ≡ unmerged i fault Second s
    unfolding on_both on_second_trace
    join_second e fault s e' = join_read e ∙ rw e'

  -- ---- neither is refused

  module _ (both : Both i) where
    abbrev choice : Choice
    choice = both.choice

    abbrev bytes : List ℕ
    bytes = merged_bytes i.first i.second

    -- what is left where all checks pass
    abbrev pub leaves : Mergence
    leaves = joined i (tally_of (reading (first i) choice)) (tally_of (reading (second i) choice)) bytes

    join_both : join i ≡ on_both i (on_readings (reading (first i) choice) (reading (second i) choice))
    unfolding on_second_trace
    join_both =
        join_read choice (both_chosen i both) (stop_read i.choice i.first choice both.reads_first)
        ∙ rw (
          stop_read i.choice i.second choice both.reads_second,
          alone_reading i.choice i.first choice,
          alone_reading i.choice i.second choice,
        )

    pub join_shared : Shared i choice → join i ≡ unmerged i Fault.SharedProcessor Neither nowhere
    unfolding on_both on_readings
    join_shared s = join_both ∙ rw ((shares_tell (entries (first i) choice) (entries (second i) choice)).told s)

    module _ (apart : ¬ Shared i choice) where
      join_apart : join i ≡ on_merged i (tally_of (reading (first i) choice)) (tally_of (reading (second i) choice)) bytes
      unfolding on_both on_readings
      join_apart = join_both ∙ rw (not_told (shares_tell (entries (first i) choice) (entries (second i) choice)) apart)

      pub join_no_room : length i.room < length i.first + length i.second → join i ≡ unmerged i Fault.NoRoom Neither nowhere
      unfolding on_merged
      join_no_room h = join_apart ∙ rw (lt-ltb (length i.room) (length bytes) (rw (both_length i both) h))

      pub join_joined : length i.first + length i.second ≤ length i.room → join i ≡ leaves
      unfolding on_merged
      join_joined h = join_apart ∙ rw (le-ltb (length i.room) (length bytes) (rw (both_length i both) h))
