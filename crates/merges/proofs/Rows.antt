-- A merging comes to what its row of the table says, and every one is in a row or joins the two traces.
use Rattle.std.specs.Prelude.{Option, Result, Some, None, Ok, Err}
use Prim.Native.Nat.{ℕ, ◌+◌, ◌<◌}
use native.Mathlib.Omega.{arith}
use native.Mathlib.Decide.{dec_lt}
use mathlib.Core.Path.{◌≡◌, refl}
use mathlib.Core.Logic.{◌⊎◌, inl, inr}
use mathlib.Core.Bool.{Bool, true, false}
use mathlib.Core.List.{[]}
use lib.ListN.{length}
use Rattle.paper.specs.Columns.{nowhere}
use Rattle.paper.specs.Answer.{choice_of, heard}
use Rattle.paper.specs.Merging.{stop_alone, share_one, Merging, unmerged, join}
use Rattle.paper.specs.declared.Choice.{Choice}
use Rattle.paper.specs.declared.Fault.{Fault}
use Rattle.paper.specs.declared.Site.{Site}
use Rattle.paper.specs.declared.Which.{Which}
use Rattle.paper.specs.declared.Which.TheVariants.{Neither, First, Second}
use Rattle.paper.specs.declared.Refusal.{Refusal}
use Rattle.demands.specs.Steps.{Unheard, entries}
use Rattle.demands.proofs.Tests.{untold, unchosen, neither}
use Rattle.merges.specs.Parts.{alone, first, second, Both, Shared, Joins}
use Rattle.merges.specs.Table.{MergeWhen, bad_choice, of_first, of_second, shared, no_room}
use Rattle.merges.proofs.Alone.{chosen_alone, one_choice, stop_read, read_of, row_of, stop_row}
use Rattle.merges.proofs.Shares.{shares_tell}
use Rattle.merges.proofs.Steps.{join_choice, join_first, join_second, join_shared, join_no_room}

-- ---- 1, as a judging call has it

choice_unheard : (n : ℕ) → ¬ (n ≡ 1) → ¬ (n ≡ 2) → choice_of n ≡ None
unfolding alone heard
choice_unheard n one two = unchosen (alone n []).asked (inl (one, two))

unheard_choice : (n : ℕ) → choice_of n ≡ None → (¬ (n ≡ 1)) × (¬ (n ≡ 2))
unfolding alone heard
unheard_choice n e = go (neither (alone n []).asked e)
  where
    go : Unheard (alone n []).asked → (¬ (n ≡ 1)) × (¬ (n ≡ 2))
    go (inl h) = h
    go (inr (inl (off, on))) = absurd (off refl)
    go (inr (inr (off, on))) = absurd (off refl)

module _ (i : Merging) where
  -- ---- what a row comes to

  pub when_unmerged : {fault : Fault} {w : Which} {s : Site} → MergeWhen i fault w s → join i ≡ unmerged i fault w s
  when_unmerged (bad_choice one two) = join_choice i (choice_unheard i.choice one two)
  when_unmerged (of_first {fault = fault} {s = s} of_trace when) =
      let (choice, chosen, stops) = stop_row i.choice i.first fault s of_trace when in join_first i choice chosen fault s stops
  when_unmerged (of_second {fault = fault} {s = s} choice read of_trace when) =
      let (c, chosen, stops) = stop_row i.choice i.second fault s of_trace when in
      let same = one_choice i.choice choice c (chosen_alone i.choice i.first choice read.begun.chosen) chosen in
      join_second i c chosen (stop_read i.choice i.first c (rw same at read)) fault s stops
  when_unmerged (shared both s) = join_shared i both s
  when_unmerged (no_room both apart h) = join_no_room i both apart h

  -- ---- some row, or joined

  abbrev pub Answered : Type 0
  Answered = Joins i ⊎ ((fault : Fault) × (w : Which) × (s : Site) × MergeWhen i fault w s)

  module _ (both : Both i) where
    on_room : ¬ Shared i both.choice → Dec (length i.room < length i.first + length i.second) → Answered
    on_room apart (yes h) = inr (Fault.NoRoom, Neither, nowhere, no_room both apart h)
    on_room apart (no h) = inl (record { both = both; apart = apart; fits = omega arith })

    on_shared : (t : Bool) → share_one (entries (first i) both.choice) (entries (second i) both.choice) ≡ t → Answered
    on_shared true e = inr (Fault.SharedProcessor, Neither, nowhere, shared both ((shares_tell _ _).holds e))
    on_shared false e = on_room (untold (shares_tell _ _) e) (dec_lt _ _)

  module _ (choice : Choice) (chosen : choice_of i.choice ≡ Some choice) where
    on_second : stop_alone choice i.first ≡ Ok tt → (x : Result Unit Refusal) → stop_alone choice i.second ≡ x → Answered
    on_second e (Ok tt) e' =
        on_shared
        (record { choice = choice; reads_first = read_of i.choice i.first choice chosen e; reads_second = read_of i.choice i.second choice chosen e' })
        _ refl
    on_second e (Err refusal) e' =
        let (of_trace, when) = row_of i.choice i.second choice chosen refusal.fault refusal.site e' in
        inr (refusal.fault, Second, refusal.site, of_second choice (read_of i.choice i.first choice chosen e) of_trace when)

    on_first_lem : (x : Result Unit Refusal) → stop_alone choice i.first ≡ x → Answered
    on_first_lem (Ok tt) e = on_second e _ refl
    on_first_lem (Err refusal) e =
        let (of_trace, when) = row_of i.choice i.first choice chosen refusal.fault refusal.site e in
        inr (refusal.fault, First, refusal.site, of_first of_trace when)

  on_choice_lem : (o : Option Choice) → choice_of i.choice ≡ o → Answered
  on_choice_lem None e = let (one, two) = unheard_choice i.choice e in inr (Fault.BadChoice, Neither, nowhere, bad_choice one two)
  on_choice_lem (Some choice) e = on_first_lem choice e _ refl

  pub answered : Answered
  answered = on_choice_lem _ refl
