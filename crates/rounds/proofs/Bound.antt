-- "at most one less than the number of listed records": where a sound set exists, the rounds repeat by then. Record by record, look
-- at its room below the sound set. A record that round k moves has at least k + 1 records, itself among them, with no more room.
use Prim.Native.Nat.{ℕ, zero, suc, ◌+◌, ◌≤◌, ◌<◌}
use native.Mathlib.Omega.{arith}
use lib.IntN.{ℤ}
use lib.Signed.{◌≤ℤ◌, clash_ℤ}
use Rattle.paper.specs.Gaps.{apart}
use Rattle.paper.specs.Clock.{Waits, Sound, round, Repeats}
use Rattle.rounds.specs.Meaning.{Closed}
use Rattle.rounds.proofs.Order.{≤ℤ-antisym, compare, apart_le, apart_back, apart_wait}
use Rattle.rounds.proofs.Counting.{count, count_le, count_more}
use Rattle.rounds.proofs.Rounds.{sound_wait, round_up, round_below}
use Rattle.rounds.proofs.Cause.{Moves, Cause, moved_by}

module _ (w : Waits) (closed : Closed w) (s : ℕ → ℤ) (sound : Sound w s) where
  unfoldable room : ℕ → ℕ → ℕ
  room k i = apart (round w k i) (s i)

  falls : (k i : ℕ) → i < w.size → room (suc k) i ≤ room k i
  unfolding room
  falls k i i< = apart_le (s i) (round_up w closed k i i<)

  -- a record that moves loses room
  loses : (k i : ℕ) → i < w.size → Moves w (suc k) i → room (suc k) i < room k i
  unfolding room
  loses k i i< moves =
      let below : (m : ℕ) → round w m i ≤ℤ s i = λ m. round_below w closed sound m i i< in
      let lost : ¬ (room k i ≤ room (suc k) i) = λ l. clash_ℤ moves (apart_back (below k) (below (suc k)) l) in
      omega arith

  -- and has then at least the room of its cause
  caused : (k i : ℕ) → i < w.size → (c : Cause w k i) → room k c.on ≤ room (suc k) i
  unfolding room
  caused k i i< c = rw c.time (apart_wait (round w k c.on) (s c.on) c.weight (sound_wait sound i< c.wait))

  crowd : (k i : ℕ) → i < w.size → Moves w k i → k < count w.size (room k) (room k i)
  crowd zero i i< moves =
      let r = room zero in
      omega (arith, count_more (λ j. suc (r i) + r j) r (r i) (r i) (omega arith) w.size (λ j j<. omega arith) i i< (omega arith) (omega arith))
  crowd (suc k) i i< moves =
      let c = moved_by w k i moves in
      let on< = closed i c.on c.weight i< c.wait in
      omega (
        arith,
        crowd k c.on on< c.moves,
        count_more (room k) (room (suc k)) (room k c.on) (room (suc k) i) (caused k i i< c) w.size (falls k) i i<
            (omega (arith, loses k i i< moves, caused k i i< c)) (omega arith),
      )

  -- from that bound on every round is repeated
  pub repeats_late : (k : ℕ) → w.size ≤ suc k → Repeats w k
  repeats_late k late i i< =
      ≤ℤ-antisym
      (compare (round w k i) (round w (suc k) i)
      (λ moves. absurd (omega (arith, crowd (suc k) i i< moves, count_le w.size (room (suc k)) (room (suc k) i))))
      (λ back. back))
      (round_up w closed k i i<)
