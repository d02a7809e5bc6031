-- A way back to a record still at its original time, each wait of which is kept exactly: where times are sound, it is what explains a moved
-- time, and nothing else does.
use Prim.Native.Nat.{ℕ, suc, ◌+◌, ◌<◌}
use native.Mathlib.Omega.{arith}
use mathlib.Core.Path.{◌≡◌, sym, ap, ◌∙◌}
use mathlib.Core.List.{List, [], ◌∷◌}
use lib.ListN.{length}
use lib.IntN.{ℤ, pos, ◌+ℤ◌, +ℤ_idr, +ℤ_assoc}
use lib.Signed.{◌≤ℤ◌, ≤ℤ_refl}
use Rattle.paper.specs.Clock.{Waits, Sound}
use Rattle.rounds.specs.Meaning.{Wait, Closed}
use Rattle.rounds.specs.Chain as rounds
use Rattle.rounds.proofs.Order.{≤ℤ-trans, ≤ℤ-antisym, sum_le, sum_back}
use Rattle.rounds.proofs.Rounds.{sound_wait}
use Rattle.causes.specs.Back.{Back, here, step, Explains}

pub data Held (w : Waits) (x : ℕ → ℤ) : ℕ → List ℕ → Type 0 where
  still : {i : ℕ} → x i ≡ w.original i → Held w x i (i ∷ [])
  goes : {i j v : ℕ} {c : List ℕ} → Wait w i j v → x i ≡ x j +ℤ pos v → Held w x j c → Held w x i (i ∷ c)

add_wait : (a : ℤ) (v sum : ℕ) → (a +ℤ pos sum) +ℤ pos v ≡ a +ℤ pos (v + sum)
add_wait a v sum = let e : sum + v ≡ v + sum = omega arith in +ℤ_assoc a (pos sum) (pos v) ∙ ap (λ n. a +ℤ pos n) e

module _ {w : Waits} {x : ℕ → ℤ} where
  pub held_explains : {i : ℕ} {c : List ℕ} → Held w x i c → Explains w x i c
  held_explains (still {i = i} e) = record { last = i; sum = 0; back = here; still = e; adds = e ∙ sym (+ℤ_idr (w.original i)) }
  held_explains (goes {v = v} wait e h) =
      let a = held_explains h in
      record {
        last = a.last;
        sum = v + a.sum;
        back = step wait a.back;
        still = a.still;
        adds = e ∙ ap (λ z. z +ℤ pos v) a.adds ∙ add_wait (w.original a.last) v a.sum;
      }

  -- as the rounds have found it
  pub moved_held : {k i : ℕ} → rounds.Chain w x k i → (c : List ℕ) × Held w x i c × (length c ≡ suc k)
  moved_held (rounds.own {i = i} e) = (i ∷ [], still (sym e), omega arith)
  moved_held (rounds.after {i = i} wait e chain) = let (c, h, l) = moved_held chain in (i ∷ c, goes wait e h, omega arith)

module _ {w : Waits} {x : ℕ → ℤ} (closed : Closed w) (sound : Sound w x) where
  -- the waits on the way leave the record no earlier time
  back_low : {i last sum : ℕ} {c : List ℕ} → i < w.size → Back w i last sum c → (x last +ℤ pos sum) ≤ℤ x i
  back_low i< (here {i = i}) = rw (+ℤ_idr (x i)) (≤ℤ_refl (x i))
  back_low i< (step {i = i} {j = j} {v = v} {last = last} {sum = sum} wait back) =
      rw (← add_wait (x last) v sum) (≤ℤ-trans (sum_le (back_low (closed i j v i< wait) back) (omega arith)) (sound_wait sound i< wait))

  -- so that together they give its time only if each of them is kept exactly
  back_held : {i last sum : ℕ} {c : List ℕ} → i < w.size → Back w i last sum c → x last ≡ w.original last → x i ≡ x last +ℤ pos sum → Held w x i c
  back_held i< here e adds = still e
  back_held i< (step {i = i} {j = j} {v = v} {last = last} {sum = sum} wait back) e adds =
      let j< = closed i j v i< wait in
      let told : x i ≡ (x last +ℤ pos sum) +ℤ pos v = adds ∙ sym (add_wait (x last) v sum) in
      let there : x j ≡ x last +ℤ pos sum =
      ≤ℤ-antisym (sum_back (x j) (x last +ℤ pos sum) v (rw told at (sound_wait sound i< wait))) (back_low j< back) in
      goes wait (rw there told) (back_held j< back e there)

  pub explains_held : {i : ℕ} {c : List ℕ} → i < w.size → Explains w x i c → Held w x i c
  explains_held i< e = back_held i< e.back e.still (rw e.still e.adds)
