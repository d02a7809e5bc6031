-- What an accepted call leaves in the lent times: the times that settle its waits.
use Rattle.std.proofs.lemmas.Option.{same_Some}
use Prim.Native.Nat.{ℕ, ◌<◌}
use native.Mathlib.Omega.{arith}
use mathlib.Core.Path.{◌≡◌, sym, ap, ◌∙◌}
use mathlib.Core.List.{◌++◌}
use lib.ListN.{length, drop, get_or-append}
use lib.IntN.{pos}
use Rattle.paper.specs.Clock.{time_at}
use Rattle.paper.specs.Matching.{waits_of}
use Rattle.paper.specs.Answer.{Inputs, Outcome, judge, accepted}
use Rattle.paper.specs.declared.Choice.{Choice}
use Rattle.rounds.specs.Meaning.{Closed, Answer}
use Rattle.rounds.proofs.Meaning.{settled_answer}
use Rattle.rounds.proofs.Stops.{sound_same}
use Rattle.demands.specs.Steps.{Chosen, entries, waits, Accepted}
use Rattle.demands.specs.Parts.{listed, time}
use Rattle.demands.specs.Demand3.{Earliest}
use Rattle.demands.proofs.Closed.{waits_closed}
use Rattle.demands.proofs.Judged.{judge_accepted}
use Rattle.demands.proofs.Allowed.{least_earliest}

-- the records of a call wait for records of it only
pub closed : (i : Inputs) (choice : Choice) → Closed (waits i choice)
closed i choice = waits_closed i.asked.share i.latencies (entries i choice)

-- a call names one choice
pub one_choice : (i : Inputs) (a b : Choice) → Chosen i a → Chosen i b → a ≡ b
one_choice i a b p q = same_Some a b (sym p ∙ q)

module _ (i : Inputs) (a : Accepted i) where
  pub listed_is : listed i ≡ length (entries i a.choice)
  unfolding accepted
  listed_is = ap (λ (o : Outcome). o.answer.listed) (judge_accepted i a)

  pub answer : Answer (waits i a.choice) a.rounds a.times
  answer = settled_answer (waits i a.choice) (closed i a.choice) a.settles

  pub size : length a.times ≡ length (entries i a.choice)
  unfolding waits_of
  size = answer.size

  pub times_are : (judge i).times ≡ a.times ++ drop (length a.times) i.times
  unfolding accepted
  times_are = ap (λ (o : Outcome). o.times) (judge_accepted i a)

  pub time_is : (k : ℕ) → k < length (entries i a.choice) → time i k ≡ time_at a.times k
  time_is k l = rw times_are (get_or-append a.times _ (pos 0) k (omega (arith, size)))

  earliest_is : Earliest i.asked.share i.latencies (entries i a.choice) (time i)
  unfolding waits_of
  earliest_is =
      least_earliest i.asked.share i.latencies (entries i a.choice)
      (record {
        sound = sound_same (waits i a.choice) (closed i a.choice) (time_at a.times) (time i) (λ k l. sym (time_is k l)) answer.least.sound;
        least = λ y s k l. rw (time_is k l) (answer.least.least y s k l);
      })

  pub earliest : (choice : Choice) → Chosen i choice → Earliest i.asked.share i.latencies (entries i choice) (time i)
  earliest choice c = rw (one_choice i a.choice choice a.matched.compared.levelled.read.begun.chosen c) at earliest_is
