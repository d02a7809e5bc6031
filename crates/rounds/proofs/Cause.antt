-- Why a record moved: a record that a round moves waits for one that the round before moved.
use Prim.Native.Nat.{ℕ, zero, suc}
use native.Mathlib.Omega.{arith}
use mathlib.Core.Path.{◌≡◌, refl}
use lib.IntN.{pos, ◌+ℤ◌}
use lib.Signed.{◌<ℤ◌, clash_ℤ}
use Rattle.paper.specs.Clock.{Waits, round}
use Rattle.rounds.specs.Meaning.{Wait}
use Rattle.rounds.proofs.Order.{≤ℤ-trans, compare, sum_le}
use Rattle.rounds.proofs.Next.{next_is, next_wait}
use Rattle.rounds.proofs.Rounds.{round_above}

-- round k moves record i; round 0 puts every record at its original
abbrev pub Moves : Waits → ℕ → ℕ → Type 0
Moves w zero i = Unit {0}
Moves w (suc k) i = round w k i <ℤ round w (suc k) i

-- what moved record i in round k + 1
pub record Cause (w : Waits) (k i : ℕ) : Type 0 where
  pub on : ℕ
  pub weight : ℕ
  pub wait : Wait w i on weight
  pub time : round w (suc k) i ≡ round w k on +ℤ pos weight
  pub moves : Moves w k on

module _ (w : Waits) (i j v : ℕ) (wait : Wait w i j v) where
  -- had j not moved, i would have had its time a round before
  moved_before : (k : ℕ) → Moves w (suc k) i → round w (suc k) i ≡ round w k j +ℤ pos v → Moves w k j
  unfolding round
  moved_before zero moves time = tt
  moved_before (suc k) moves time =
      compare (round w k j) (round w (suc k) j) (λ less. less)
      (λ back. clash_ℤ moves (rw time (≤ℤ-trans (sum_le back (omega arith)) (next_wait w (round w k) i wait))))

pub moved_by : (w : Waits) (k i : ℕ) → Moves w (suc k) i → Cause w k i
unfolding round
moved_by w k i moves =
    next_is w (round w k) i (λ z. round w (suc k) i ≡ z → Cause w k i)
    (λ e. clash_ℤ moves (rw e (round_above w k i)))
    (λ j v wait e. record { on = j; weight = v; wait = wait; time = e; moves = moved_before w i j v wait k moves e })
    refl
