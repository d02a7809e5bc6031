-- What an answer to the clock condition means, in the paper's words and without the way there.
use Rattle.std.specs.Prelude.{ℕ, ◌-◌, ◌≤◌, ◌<◌, ◌≡◌, List, ℤ, length, Some}
use Rattle.paper.specs.Clock.{Waits, Sound, Least, Repeats, time_at, Settled, impossible, settled}

-- record i waits for record j, with this weight: j is the record before it on its processor, or its send
pub data Wait (w : Waits) (i j : ℕ) : ℕ → Type 0 where
  on_before : w.before i ≡ Some j → Wait w i j (w.gap i)
  on_send : w.send i ≡ Some j → Wait w i j (w.latency i)

-- the records wait for records only
abbrev pub Closed : Waits → Type 0
Closed w = (i j v : ℕ) → i < w.size → Wait w i j v → j < w.size

-- "The answer is the least sound set." "The rounds reported are the first round that the next one repeats: at most one less than
-- the number of listed records, and 0 for none."
pub record Answer (w : Waits) (rounds : ℕ) (times : List ℤ) : Type 0 where
  pub size : length times ≡ w.size
  pub least : Least w (time_at times)
  pub repeats : Repeats w rounds
  pub first : (m : ℕ) → m < rounds → Repeats w m → ⊥
  pub bound : rounds ≤ w.size - 1

-- "no times exist", or the answer
unfoldable pub Means : Waits → Settled → Type 0
Means w impossible = (x : ℕ → ℤ) → Sound w x → ⊥
Means w (settled rounds times) = Answer w rounds times
