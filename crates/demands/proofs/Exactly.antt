-- Every call is accepted or is in a row of the table, and gets the number, line and column of the row that it is in.
use native.Mathlib.Omega.{arith}
use mathlib.Core.Path.{◌≡◌, refl, sym, ap, ◌∙◌}
use mathlib.Core.Logic.{◌⊎◌, inl, inr}
use mathlib.Core.Bool.{Bool, true, false}
use lib.ListN.{length}
use lib.Dec.{ltb}
use borrow.Author.Tests.{ltb-true, ltb-false}
use Rattle.paper.specs.Columns.{nowhere}
use Rattle.paper.specs.Answer.{Inputs, given, stopped, reach, judge, refused, written}
use Rattle.paper.specs.declared.Fault.{Fault}
use Rattle.paper.specs.declared.Site.{Site}
use Rattle.demands.specs.Steps.{Accepted}
use Rattle.demands.specs.Table.{When}
use Rattle.demands.proofs.Reached.{found_by, reach_found}
use Rattle.demands.proofs.Judged.{judge_stopped, judge_room}
use Rattle.demands.proofs.Rows.{Timed, reached, row_stops}

module _ (i : Inputs) where
  -- ---- some row, or accepted

  abbrev Answered : Type 0
  Answered = Accepted i ⊎ ((fault : Fault) × (s : Site) × When i fault s)

  on_room : (t : Timed i) → (b : Bool) → ltb (length i.room) (length (written i t.choice t.times)) ≡ b → (w : Bool) → i.wanted ≡ w → Answered
  unfolding When written
  on_room t false b w v =
      inl (record { choice = t.choice; rounds = t.rounds; times = t.times; matched = t.matched; settles = t.settles; room = ltb-false _ _ b })
  on_room t true b true v = inr (Fault.NoRoom, nowhere, (t.choice, t.rounds, t.times, t.matched, t.settles, v, ltb-true _ _ b, refl))
  on_room t true b false v = absurd (omega (arith, ltb-true (length i.room) 0 (rw v at b)))

  pub answered : Answered
  answered = go (reached i)
    where
      go : Timed i ⊎ ((fault : Fault) × (s : Site) × When i fault s) → Answered
      go (inl t) = on_room t _ refl _ refl
      go (inr row) = inr row

  -- ---- what a row comes to

  no_room : (s : Site) → When i Fault.NoRoom s → judge i ≡ refused i Fault.NoRoom s
  unfolding When
  no_room s (choice, rounds, times, m, settles, wanted, l, e) =
      judge_room i (found_by i choice rounds times) (reach_found i choice m rounds times settles) l ∙ ap (refused i Fault.NoRoom) (sym e)

  pub when_refused : (fault : Fault) (s : Site) → When i fault s → judge i ≡ refused i fault s
  when_refused fault s when = go (row_stops i fault s when)
    where
      go : (reach (given i) ≡ stopped fault s) ⊎ (fault ≡ Fault.NoRoom) → judge i ≡ refused i fault s
      go (inl e) = judge_stopped i fault s e
      go (inr e) = rw e (no_room s (rw e at when))
