-- Why a record stands where it does. The round in which it last moved is the fewest waits back to a record at its original.
use Prim.Native.Nat.{ℕ, zero, suc, ◌≤◌, ◌<◌, zero-le}
use native.Mathlib.Omega.{arith}
use native.Mathlib.Decide.{dec_le}
use mathlib.Core.Path.{◌≡◌, sym, ◌∙◌}
use mathlib.Core.List.{List}
use lib.IntN.{ℤ, pos, ◌+ℤ◌}
use lib.Signed.{◌≤ℤ◌, ≤ℤ_refl, clash_ℤ}
use Rattle.paper.specs.Clock.{Waits, Sound, round, time_at, settled, settle}
use Rattle.rounds.specs.Meaning.{Wait, Closed}
use Rattle.rounds.specs.Chain.{LastMoved, Chain, own, after}
use Rattle.rounds.proofs.Order.{≤ℤ-trans, ≤ℤ-antisym, compare, sum_le, sum_back}
use Rattle.rounds.proofs.Next.{next_wait}
use Rattle.rounds.proofs.Rounds.{sound_wait, round_up, round_below}
use Rattle.rounds.proofs.Cause.{Moves, moved_by}
use Rattle.rounds.proofs.Meaning.{settled_answer, settled_round}

module _ (w : Waits) (closed : Closed w) (x : ℕ → ℤ) (sound : Sound w x) where
  -- a record that has come to its time by round m came to it last in one of them
  pub last_moved : (m i : ℕ) → i < w.size → round w m i ≡ x i → (k : ℕ) × (k ≤ m) × LastMoved w x k i
  unfolding round
  last_moved zero i i< e = (0, zero-le, e)
  last_moved (suc m) i i< e =
      compare (round w m i) (x i) (λ less. (suc m, omega arith, (less, e)))
      (λ back.
      let before = last_moved m i i< (≤ℤ-antisym (round_below w closed sound m i i<) back) in
      (before.0, omega (arith, before.1), before.2))

  -- one wait back: the cause of its last move moved last in the round before
  pub record Step (k i : ℕ) : Type 0 where
    pub on : ℕ
    pub weight : ℕ
    pub wait : Wait w i on weight
    pub time : x i ≡ x on +ℤ pos weight
    pub last : LastMoved w x k on

  came : (k j : ℕ) → Moves w k j → round w k j ≡ x j → LastMoved w x k j
  unfolding round
  came zero j moves e = e
  came (suc k) j moves e = (rw e at moves, e)

  pub step_back : (k i : ℕ) → i < w.size → LastMoved w x (suc k) i → Step k i
  step_back k i i< (less, e) =
      let c = moved_by w k i (rw e less) in
      let on< = closed i c.on c.weight i< c.wait in
      let low = sound_wait sound i< c.wait in
      let told : x i ≡ round w k c.on +ℤ pos c.weight = sym e ∙ c.time in
      let there : round w k c.on ≡ x c.on =
      ≤ℤ-antisym (round_below w closed sound k c.on on<) (sum_back (x c.on) (round w k c.on) c.weight (rw told at low)) in
      record { on = c.on; weight = c.weight; wait = c.wait; time = told ∙ rw there; last = came k c.on c.moves there }

  -- so as many waits as that round lead back to an original
  pub moved_chain : (k i : ℕ) → i < w.size → LastMoved w x k i → Chain w x k i
  moved_chain zero i i< e = own e
  moved_chain (suc k) i i< last =
      let s = step_back k i i< last in
      after s.wait s.time (moved_chain k s.on (closed i s.on s.weight i< s.wait) s.last)

  -- and no fewer do
  chain_round : {m i : ℕ} → i < w.size → Chain w x m i → x i ≤ℤ round w m i
  unfolding round
  chain_round {i = i} i< (own e) = rw e (≤ℤ_refl (x i))
  chain_round {i = i} i< (after {k = m} {j = j} {v = v} wait e chain) =
      rw e (≤ℤ-trans (sum_le (chain_round (closed i j v i< wait) chain) (omega arith)) (next_wait w (round w m) i wait))

  round_rise : (m n i : ℕ) → i < w.size → m ≤ n → round w m i ≤ℤ round w n i
  round_rise m zero i i< l = let e : m ≡ 0 = omega arith in rw e (≤ℤ_refl (round w 0 i))
  round_rise m (suc n) i i< l = go (λ less. round_rise m n i i< less) (dec_le m n)
    where
      go : (m ≤ n → round w m i ≤ℤ round w n i) → Dec (m ≤ n) → round w m i ≤ℤ round w (suc n) i
      go earlier (yes less) = ≤ℤ-trans (earlier less) (round_up w closed n i i<)
      go earlier (no more) = let e : m ≡ suc n = omega arith in rw e (≤ℤ_refl (round w (suc n) i))

  pub chain_fewest : (m k i : ℕ) → i < w.size → Chain w x m i → LastMoved w x k i → k ≤ m
  chain_fewest m zero i i< chain last = zero-le
  chain_fewest m (suc k) i i< chain (less, e) =
      let late : ¬ (m ≤ k) = λ l. clash_ℤ less (≤ℤ-trans (chain_round i< chain) (round_rise m k i i< l)) in
      omega arith

-- every record of a settled answer has such a round, at most the rounds reported
pub settled_moved : (w : Waits) → Closed w → {k : ℕ} {xs : List ℤ} → settle w ≡ settled k xs → (i : ℕ) → i < w.size
    → (m : ℕ) × (m ≤ k) × LastMoved w (time_at xs) m i
settled_moved w closed {k} {xs} answer i i< =
    let a = settled_answer w closed answer in
    last_moved w closed (time_at xs) a.least.sound k i i< (sym (settled_round w closed a i i<))
