-- "from that record back, step by step, to a record still at its original time, each step to the record before it on its processor or to its
-- send. Starting time plus the chain's latencies equals the moved time". By the ninth change request "the chain of request 7" reads the new
-- condition: a step to the record before it takes the gap that is kept, and what the steps take together has these gaps in it.
use Rattle.std.specs.Prelude.{ℕ, ◌+◌, ◌<◌, ◌≡◌, List, [], ◌∷◌, length, get_or, ℤ, pos, ◌+ℤ◌}
use Rattle.paper.specs.Clock.{Waits}
use Rattle.rounds.specs.Meaning.{Wait}

-- back from record i, each step to the record before it on its processor or to its send: the places of the records on the way, the last of
-- them, and how long the waits are together
pub data Back (w : Waits) : (i last sum : ℕ) → List ℕ → Type 0 where
  here : {i : ℕ} → Back w i i 0 (i ∷ [])
  step : {i j v last sum : ℕ} {c : List ℕ} → Wait w i j v → Back w j last sum c → Back w i last (v + sum) (i ∷ c)

-- such a way to a record still at its original time, which with the latencies and the gaps of the steps gives the moved time
pub record Explains (w : Waits) (x : ℕ → ℤ) (i : ℕ) (c : List ℕ) : Type 0 where
  pub last : ℕ
  pub sum : ℕ
  pub back : Back w i last sum c
  pub still : x last ≡ w.original last
  pub adds : x i ≡ w.original last +ℤ pos sum

-- the record at a place of the chain
abbrev pub at : List ℕ → ℕ → ℕ
at c a = get_or c a 0

-- "no record occurs twice"
abbrev pub Once : List ℕ → Type 0
Once c = (a b : ℕ) → a < length c → b < length c → at c a ≡ at c b → a ≡ b
