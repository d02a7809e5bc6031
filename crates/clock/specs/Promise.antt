-- All that a call leaves behind: the paper's answer, in both slices.
use Rattle.std.specs.Prelude.{ℕ, List, cond, length, replicate, ℤ, pos, Result, Ok, Err}
use Rattle.paper.specs.Clock as paper
use Rattle.paper.specs.Clock.{settled, impossible}
use Rattle.engine.specs.Promise.{waits_of, fitting}
use Rattle.engine.specs.declared.Unsettled.{Unsettled}

pub data Outcome : Type 0 where
  outcome : (answer : Result ℕ Unsettled) (times spare : List ℤ) → Outcome

-- the paper's answer for n records in both slices; where there is none, both are cleared
unfoldable pub answered : ℕ → paper.Settled → Outcome
answered n impossible = outcome (Err Unsettled.Impossible) (replicate n (pos 0)) (replicate n (pos 0))
answered n (settled k xs) = outcome (Ok k) xs xs

-- the originals are what `times` holds
unfoldable pub outcome_of : (before gap send latency : List ℕ) → (times spare : List ℤ) → Outcome
outcome_of before gap send latency times spare =
    cond (fitting before gap send latency times spare)
    (answered (length times) (paper.settle (waits_of times before gap send latency)))
    (outcome (Err Unsettled.Misfit) times spare)
