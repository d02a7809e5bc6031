-- What the engine's own functions tell each other.
use Rattle.std.specs.Prelude.{ℕ, ◌<◌, ◌≡◌, List, Bool, true, false, cond, not, length, ℤ, ◌≤ℤ◌}
use Rattle.paper.specs.Tests.{all_up_to}
use Rattle.paper.specs.Clock.{limit, time_at, next}
use Rattle.engine.specs.declared.Turn.{Turn}
use Rattle.engine.specs.declared.Turn.TheVariants.{Over, Same, Moved}
use Rattle.engine.specs.Promise.{waits_of, widest, gaps_for}

-- whether P holds of every number below i
abbrev pub Told : Bool → (ℕ → Type 0) → ℕ → Type 0
Told true P i = (k : ℕ) → k < i → P k
Told false P i = ((k : ℕ) → k < i → P k) → ⊥

-- the time at k is not above the limit
abbrev pub Within : List ℤ → ℕ → Type 0
Within xs k = time_at xs k ≤ℤ limit

-- nor is any other
abbrev pub Low : List ℤ → Type 0
Low xs = Told true (Within xs) (length xs)

-- as many of each as there are times, or no gaps at all, and no gap that no two times have
pub record Sized (before gap send latency : List ℕ) (times spare : List ℤ) : Type 0 where
  pub befores : length before ≡ length times
  pub gaps : gaps_for (length times) (length gap) ≡ length times
  pub sends : length send ≡ length times
  pub latencies : length latency ≡ length times
  pub spares : length spare ≡ length times
  pub narrow : all_up_to widest gap ≡ true

-- the times of the round after the times xs, which stand for the originals too
unfoldable pub following : (before gap send latency : List ℕ) → List ℤ → ℕ → ℤ
following before gap send latency xs i = next (waits_of xs before gap send latency) (time_at xs) i

-- what a round by this rule does that is made after the times xs and put into ys
unfoldable pub Turned : (List ℤ → ℕ → ℤ) → List ℤ → Turn → List ℤ → Type 0
Turned rule xs Over ys = Told false (λ k. rule xs k ≤ℤ limit) (length xs)
Turned rule xs Same ys = Told true (λ k. rule xs k ≡ time_at xs k) (length xs) × (ys ≡ xs)
Turned rule xs Moved ys =
    Told false (λ k. rule xs k ≡ time_at xs k) (length xs)
    × ((k : ℕ) → k < length xs → (time_at ys k ≡ rule xs k) × Within ys k) × (length ys ≡ length xs)

-- which of the two slices holds a round; the next one goes into the other
abbrev pub front : Bool → List ℤ → List ℤ → List ℤ
front first times spare = cond first times spare

pub record Stepped (rule : List ℤ → ℕ → ℤ) (first : Bool) (times spare : List ℤ) (turn : Turn) (times' spare' : List ℤ) : Type 0 where
  pub kept : front first times' spare' ≡ front first times spare
  pub turned : Turned rule (front first times spare) turn (front (not first) times' spare')
