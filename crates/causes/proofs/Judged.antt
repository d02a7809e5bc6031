-- The judging call that both calls go by: they are refused as it is, and go on with what it has found. It writes nothing, so that 16 is never
-- given for its room.
use mathlib.Core.Path.{◌≡◌}
use mathlib.Core.Logic.{◌⊎◌, inl, inr}
use mathlib.Core.Bool.{false≢true}
use mathlib.Core.List.{List}
use lib.ListN.{length-replicate}
use lib.IntN.{pos}
use Rattle.paper.specs.Answer.{given, Found, stopped, reach}
use Rattle.paper.specs.Filling.{Query, Filling, most_lent, judged, untouched, on_reached, fill}
use Rattle.paper.specs.declared.Choice.{Choice}
use Rattle.paper.specs.declared.Fault.{Fault}
use Rattle.paper.specs.declared.Site.{Site}
use Rattle.demands.specs.Steps.{Accepted, Chosen}
use Rattle.demands.specs.Table.{When}
use Rattle.demands.proofs.Reached.{found_by, reach_found}
use Rattle.demands.proofs.Rows.{row_stops}
use Rattle.demands.proofs.Times.{one_choice}
use Rattle.causes.specs.Calls.{judging}

module _ (q : Query) where
  same_given : judged q ≡ given (judging q)
  unfolding judged judging
  same_given = rw (length-replicate most_lent (pos 0))

  no_room_asked : (s : Site) → When (judging q) Fault.NoRoom s → ⊥
  unfolding When judging
  no_room_asked s (choice, rounds, times, m, settles, wanted, l, e) = false≢true wanted

  -- a call names one choice
  pub its_choice : (a : Accepted (judging q)) (choice : Choice) → Chosen (judging q) choice → choice ≡ a.choice
  its_choice a choice c = one_choice (judging q) choice a.choice c a.matched.compared.levelled.read.begun.chosen

  module _ {A : Type 0} (list : List A) (more : Found → Filling A) where
    -- "A refused trace keeps its refusal"
    pub fill_stops : (fault : Fault) (s : Site) → When (judging q) fault s → fill q list more ≡ untouched list fault s
    unfolding fill on_reached
    fill_stops fault s when = go (row_stops (judging q) fault s when)
      where
        go : (reach (given (judging q)) ≡ stopped fault s) ⊎ (fault ≡ Fault.NoRoom) → fill q list more ≡ untouched list fault s
        go (inl e) = rw (same_given, e)
        go (inr e) = absurd (no_room_asked s (rw e at when))

    pub fill_found : (a : Accepted (judging q)) → fill q list more ≡ more (found_by (judging q) a.choice a.rounds a.times)
    unfolding fill on_reached
    fill_found a = rw (same_given, reach_found (judging q) a.choice a.matched a.rounds a.times a.settles)
