-- The loop of rounds between two slices: the one in front holds the round, and after a step the other one does.
use Rattle.std.specs.Prelude.{Ok, Err}
use Prim.Native.Nat.{ℕ, suc, ◌+◌, ◌≤◌, ◌<◌}
use native.Mathlib.Omega.{arith}
use mathlib.Core.Path.{◌≡◌, refl, sym, ◌∙◌}
use mathlib.Core.List.{List}
use mathlib.Core.Bool.{Bool, true, false, not}
use lib.ListN.{length}
use lib.IntN.{ℤ}
use Rattle.paper.specs.Clock as paper
use Rattle.paper.specs.Clock.{Waits, time_at, next, round, settled, impossible}
use Rattle.rounds.specs.Meaning.{Closed}
use Rattle.rounds.proofs.Stops.{stop_high, stop_late}
use Rattle.rounds.proofs.Meaning.{means_settle}
use Rattle.engine.specs.declared.Turn.{Turn}
use Rattle.engine.specs.declared.Turn.TheVariants.{Over, Same, Moved}
use Rattle.engine.specs.Promise.{waits_of, Ended}
use Rattle.engine.specs.Inner.{Told, Within, Low, following, front, Stepped}
use Rattle.engine.proofs.Waiting.{closed}
use Rattle.engine.proofs.Rising.{round_risen}
use Rattle.engine.proofs.Going.{Going, going_over, going_same, going_on}
use Rattle.engine.specs.declared.Unsettled.{Unsettled}

-- times that are in front and behind are in both slices
ended_both : (w : Waits) (k : ℕ) (xs : List ℤ) (first : Bool) (times spare : List ℤ) → paper.settle w ≡ settled k xs
    → front first times spare ≡ xs → front (not first) times spare ≡ xs → Ended w (Ok k) times spare
unfolding Ended
ended_both w k xs true times spare e here there = (rw here e, there ∙ sym here)
ended_both w k xs false times spare e here there = (rw there e, here ∙ sym there)

module _ (originals : List ℤ) (before gap send latency : List ℕ) where
  abbrev w : Waits
  w = waits_of originals before gap send latency

  all : Closed w
  all = closed originals before gap send latency

  -- the first round, or no times
  pub start_low : Low originals → Going w 0 originals
  unfolding waits_of round
  start_low low = record { size = refl; low = low; times = λ i i<. refl; before = λ m l repeats. omega arith }

  pub start_high : Told false (Within originals) (length originals) → (times spare : List ℤ) → Ended w (Err Unsettled.Impossible) times spare
  unfolding waits_of round Ended
  start_high high times spare = sym (means_settle w all impossible (stop_high w all 0 high))

  -- the slice in front goes where the originals do
  follows : {k : ℕ} {xs : List ℤ} → Going w k xs → (i : ℕ) → i < length xs → round w (suc k) i ≡ following before gap send latency xs i
  unfolding waits_of following next
  follows {k} {xs} g i i< = round_risen w (time_at xs) all k g.times i (omega (arith, g.size)) ∙ rw g.size

  -- a step from round k: the three ways out, and the next round
  module _ {k : ℕ} {first : Bool} {times spare times' spare' : List ℤ} {turn : Turn}
      (g : Going w k (front first times spare)) (s : Stepped (following before gap send latency) first times spare turn times' spare') where
    pub step_over : turn ≡ Over → Ended w (Err Unsettled.Impossible) times' spare'
    unfolding Ended
    step_over e = going_over w all g _ (follows g) _ (rw e at s.turned)

    pub step_same : turn ≡ Same → Ended w (Ok k) times' spare'
    step_same e =
        let told = going_same w all g _ (follows g) _ (rw e at s.turned) in
        ended_both w k _ first times' spare' told.0 s.kept told.1

    pub step_on : turn ≡ Moved → Going w (k + 1) (front (not first) times' spare')
    step_on e = going_on w all g _ (follows g) _ (rw e at s.turned)

  -- more rounds than records, and none was repeated
  pub late : {k : ℕ} {xs : List ℤ} → Going w k xs → length originals ≤ k → 0 < k → (times spare : List ℤ) → Ended w (Err Unsettled.Impossible) times spare
  unfolding waits_of Ended
  late {k} g more some times spare = sym (means_settle w all impossible (stop_late w all k g.before more some))
