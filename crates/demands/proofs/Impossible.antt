-- Where the earlier checks pass: 15 exactly if no times exist, and else 0 or 16.
use Prim.Native.Nat.{ℕ}
use mathlib.Core.Path.{◌≡◌, refl, ap}
use mathlib.Core.Logic.{◌⊎◌, inl, inr, ◌↔◌}
use mathlib.Core.Bool.{Bool, true, false}
use mathlib.Core.List.{List}
use lib.ListN.{length}
use lib.Dec.{ltb}
use lib.IntN.{ℤ}
use borrow.Author.Tests.{ltb-true, ltb-false}
use Rattle.paper.specs.Numbers.{number_of}
use Rattle.paper.specs.Clock.{Sound, Settled, impossible, settled, settle}
use Rattle.paper.specs.Columns.{nowhere}
use Rattle.paper.specs.Answer.{Inputs, Outcome, refused, written}
use Rattle.paper.specs.declared.Choice.{Choice}
use Rattle.paper.specs.declared.Fault.TheVariants as Fault
use Rattle.paper.specs.declared.Site.{Site}
use Rattle.demands.specs.Steps.{entries, Matched, waits}
use Rattle.demands.specs.Table.{When}
use Rattle.demands.specs.Parts.{number, site}
use Rattle.demands.specs.Demand3.{Keeping}
use Rattle.demands.proofs.Refusals.{accepted_exactly, refused_exactly}
use Rattle.demands.proofs.Reached.{found_by, reach_times, reach_found}
use Rattle.demands.proofs.Judged.{judge_stopped, judge_room}
use Rattle.demands.proofs.Allowed.{keeping_sound, sound_keeping}
use Rattle.demands.proofs.Times.{one_choice}

module _ (i : Inputs) where
  pub no_times : (s : Site) → ((number i ≡ 15) × (site i ≡ s)) ↔ When i Fault.NoTimes s
  unfolding number_of
  no_times s = refused_exactly i Fault.NoTimes s

  pub impossible_matched : number i ≡ 15 → (choice : Choice) × Matched i choice × ((x : ℕ → ℤ) → Sound (waits i choice) x → ⊥)
  unfolding When
  impossible_matched e = let (choice, m, none-sound, e) = (no_times (site i)).0 (e, refl) in (choice, m, none-sound)

  pub matched_impossible : (choice : Choice) → Matched i choice → ((x : ℕ → ℤ) → Sound (waits i choice) x → ⊥) → number i ≡ 15
  unfolding When
  matched_impossible choice m none-sound = ((no_times nowhere).1 (choice, m, none-sound, refl)).0

  -- what is left where the earlier checks pass
  pub matched_number : (choice : Choice) → Matched i choice → (number i ≡ 0) ⊎ ((number i ≡ 15) ⊎ (number i ≡ 16))
  unfolding refused number_of
  matched_number choice m = go (settle (waits i choice)) refl
    where
      on_room : (rounds : ℕ) (times : List ℤ) → settle (waits i choice) ≡ settled rounds times
          → (b : Bool) → ltb (length i.room) (length (written i choice times)) ≡ b → (number i ≡ 0) ⊎ ((number i ≡ 15) ⊎ (number i ≡ 16))
      on_room rounds times e true b = inr (inr (ap (λ (o : Outcome). o.answer.number) (judge_room i (found_by i choice rounds times) (reach_found i choice m rounds times e) (ltb-true _ _ b))))
      on_room rounds times e false b =
          inl ((accepted_exactly i).1 (record { choice = choice; rounds = rounds; times = times; matched = m; settles = e; room = ltb-false _ _ b }))

      go : (s : Settled) → settle (waits i choice) ≡ s → (number i ≡ 0) ⊎ ((number i ≡ 15) ⊎ (number i ≡ 16))
      go impossible e = inr (inl (ap (λ (o : Outcome). o.answer.number) (judge_stopped i Fault.NoTimes nowhere (reach_times i choice m e))))
      go (settled rounds times) e = on_room rounds times e _ refl

  pub impossible_exactly : (choice : Choice) → Matched i choice
      → (number i ≡ 15) ↔ ((x : ℕ → ℤ) → Keeping i.asked.share i.latencies (entries i choice) x → ⊥)
  impossible_exactly choice m = (to, of)
    where
      to : number i ≡ 15 → (x : ℕ → ℤ) → Keeping i.asked.share i.latencies (entries i choice) x → ⊥
      to e =
          let (c, n, none-sound) = impossible_matched e in
          let same : c ≡ choice = one_choice i c choice n.compared.levelled.read.begun.chosen m.compared.levelled.read.begun.chosen in
          λ x a. (rw same at none-sound) x (keeping_sound i.asked.share i.latencies (entries i choice) a)

      of : ((x : ℕ → ℤ) → Keeping i.asked.share i.latencies (entries i choice) x → ⊥) → number i ≡ 15
      of none-keeping = matched_impossible choice m (λ x s. none-keeping x (sound_keeping i.asked.share i.latencies (entries i choice) s))
