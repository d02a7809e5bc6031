-- The engine's promise: the waits that its slices stand for, and how its rounds end.
use Rattle.std.specs.Prelude.{ℕ, ◌≡◌, List, [], ◌∷◌, Bool, true, false, cond, ◌&&◌, length, get_or, ℤ, ltb, eqb, Option, Result, Some, None, Ok, Err}
use Rattle.paper.specs.Tests.{all_up_to}
use Rattle.paper.specs.Clock as paper
use Rattle.paper.specs.Clock.{Waits, time_at, settled, impossible}
use Rattle.engine.specs.declared.Unsettled.{Unsettled}

-- the record at this place of n, none from n on
abbrev pub place : ℕ → ℕ → Option ℕ
place n j = cond (ltb j n) (Some j) None

-- for each record its original, the place of the record before it with the gap to keep from there, the place of its send, and the latency
-- from there
unfoldable pub waits_of : List ℤ → (before gap send latency : List ℕ) → Waits
waits_of originals before gap send latency = record {
  size = length originals;
  original = time_at originals;
  before = λ i. place (length originals) (get_or before i 0);
  gap = λ i. get_or gap i 0;
  send = λ i. place (length originals) (get_or send i 0);
  latency = λ i. get_or latency i 0;
}

-- whether each of these is n
unfoldable pub all_are : ℕ → List ℕ → Bool
all_are n [] = true
all_are n (m ∷ ms) = eqb m n && all_are n ms

-- the widest gap between two times that the format holds
abbrev pub widest : ℕ
widest = 1999999999999998

-- no gaps at all are as good as one of 0 to each of n records
unfoldable pub gaps_for : (n lent : ℕ) → ℕ
gaps_for n lent = cond (eqb lent 0) n lent

-- as many of each as there are times, and no gap that no two times have
unfoldable pub fitting : (before gap send latency : List ℕ) → (times spare : List ℤ) → Bool
fitting before gap send latency times spare =
    all_are (length times) (length before ∷ gaps_for (length times) (length gap) ∷ length send ∷ length latency ∷ length spare ∷ []) && all_up_to widest gap

-- ---- how the rounds end

-- in the paper's answer: where it is one of times, both slices hold them
unfoldable pub Ended : Waits → Result ℕ Unsettled → (times spare : List ℤ) → Type 0
Ended w (Ok k) times spare = (paper.settle w ≡ settled k times) × (spare ≡ times)
Ended w (Err Unsettled.Impossible) times spare = paper.settle w ≡ impossible
Ended w (Err Unsettled.Misfit) times spare = ⊥

-- where the slices fit; and else nothing is touched
pub record RunInto (fits : Bool) (w : Waits) (times spare : List ℤ) (r : Result ℕ Unsettled) (times' spare' : List ℤ) : Type 0 where
  pub ends : fits ≡ true → Ended w r times' spare'
  pub misfits : fits ≡ false → (r ≡ (Err Unsettled.Misfit)) × (times' ≡ times) × (spare' ≡ spare)
