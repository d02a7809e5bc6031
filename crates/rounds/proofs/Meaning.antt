-- The computed answer means what it says, and is the only one that does.
use Prim.Native.Nat.{ℕ, zero, suc, ◌+◌, ◌-◌, ◌≤◌, ◌<◌, max}
use native.Mathlib.Omega.{arith}
use mathlib.Core.Path.{◌≡◌, refl, sym, ap, ◌∙◌}
use mathlib.Core.Logic.{◌↔◌}
use mathlib.Core.List.{List}
use mathlib.Core.Bool.{cond}
use lib.ListN.{length}
use lib.Seq.{ext_get_or}
use lib.IntN.{ℤ, pos}
use lib.Dec.{T}
use Rattle.paper.specs.Clock.{Waits, Sound, next, round, Repeats, listed, time_at, same, within_limit, Settled, impossible, settled, settled_from, settle}
use Rattle.rounds.specs.Meaning.{Closed, Answer, Means}
use Rattle.rounds.proofs.Order.{test, ≤ℤ-trans}
use Rattle.rounds.proofs.Next.{next_same}
use Rattle.rounds.proofs.Rounds.{round_below, repeat_least, least_unique}
use Rattle.rounds.proofs.Lists.{length_listed, listed_at, listed_same, same_equal, equal_same, within_at, at_within}
use Rattle.rounds.proofs.Stops.{NoneBefore, none_more, stop_settled, stop_high, stop_late}

module _ (w : Waits) (closed : Closed w) where
  -- round k as a list
  abbrev list : ℕ → List ℤ
  list k = listed w.size (round w k)

  list_at : (k i : ℕ) → i < w.size → time_at (list k) i ≡ round w k i
  list_at k = listed_at w.size (round w k)

  next_list : (k : ℕ) → listed w.size (next w (time_at (list k))) ≡ list (suc k)
  unfolding round
  next_list k = listed_same w.size (next w (time_at (list k))) (next w (round w k)) (next_same w closed (time_at (list k)) (round w k) (list_at k))

  same_repeats : (k : ℕ) → T (same (list (suc k)) (list k)) → Repeats w k
  same_repeats k h i i< = sym (list_at (suc k) i i<) ∙ ap (λ (xs : List ℤ). time_at xs i) (same_equal (list (suc k)) (list k) h) ∙ list_at k i i<

  repeats_same : (k : ℕ) → Repeats w k → T (same (list (suc k)) (list k))
  repeats_same k repeats = rw (listed_same w.size (round w (suc k)) (round w k) repeats) (equal_same (list k))

  -- the first repeated round is the answer, or is above the limit somewhere and with it every sound set
  found : (k : ℕ) → NoneBefore w k → Repeats w k → Means w (cond (within_limit (list k)) (settled k (list k)) impossible)
  found k before repeats =
      let size : length (list k) ≡ w.size = length_listed w.size (round w k) in
      test (Means w) (within_limit (list k)) (settled k (list k)) impossible
      (λ h. stop_settled w closed k (list k) before repeats size (λ i i<. sym (list_at k i i<)) (λ i i<. within_at (list k) h i (omega arith)))
      (λ h. stop_high w closed k (λ within. h (at_within (list k) (λ i i<. rw (list_at k i (omega arith)) (within i (omega arith))))))

  settled_from_lem : (more k : ℕ) → NoneBefore w k → w.size ≤ more + k → 0 < more + k → Means w (settled_from w more k (list k))
  unfolding settled_from
  settled_from_lem zero k before late some = stop_late w closed k before (omega arith) (omega arith)
  settled_from_lem (suc more) k before late some =
      rw (next_list k)
      (test (Means w) (same (list (suc k)) (list k)) _ _
      (λ h. found k before (same_repeats k h))
      (λ h. settled_from_lem more (suc k) (none_more w k before (λ repeats. h (repeats_same k repeats))) (omega arith) (omega arith)))

  -- the computed answer is the least sound set with the first repeated round, at most one less than the number of records; and
  -- where it is impossible, no sound set exists
  pub settle_means : Means w (settle w)
  unfolding settle round
  settle_means = settled_from_lem (max 1 w.size) 0 (λ m l repeats. omega arith) (omega arith) (omega arith)

-- ---- only one answer means so

pub answers_equal : {w : Waits} {k m : ℕ} {xs ys : List ℤ} → Answer w k xs → Answer w m ys → settled k xs ≡ settled m ys
answers_equal {w} {k} {m} {xs} {ys} a b =
    let not_before : ¬ (k < m) = λ l. b.first k l a.repeats in
    let not_after : ¬ (m < k) = λ l. a.first m l b.repeats in
    let e : k ≡ m = omega arith in
    rw (e, ext_get_or (pos 0) xs ys (a.size ∙ sym b.size) (λ i l. least_unique a.least b.least i (omega (arith, a.size))))

pub means_unique : (w : Waits) (a b : Settled) → Means w a → Means w b → a ≡ b
unfolding Means
means_unique w impossible impossible f g = refl
means_unique w impossible (settled m ys) f g = absurd (f (time_at ys) g.least.sound)
means_unique w (settled k xs) impossible f g = absurd (g (time_at xs) f.least.sound)
means_unique w (settled k xs) (settled m ys) f g = answers_equal f g

pub means_settle : (w : Waits) → Closed w → (a : Settled) → Means w a → a ≡ settle w
means_settle w closed a means = means_unique w a (settle w) means (settle_means w closed)

-- "no times exist" is the answer exactly if no sound set does
pub impossible_iff : (w : Waits) → Closed w → (settle w ≡ impossible) ↔ ((x : ℕ → ℤ) → Sound w x → ⊥)
unfolding Means
impossible_iff w closed =
    (λ e. rw e at (settle_means w closed), λ none. sym (means_settle w closed impossible none))

-- what a settled answer says
pub settled_answer : (w : Waits) → Closed w → {k : ℕ} {xs : List ℤ} → settle w ≡ settled k xs → Answer w k xs
unfolding Means
settled_answer w closed e = rw e at (settle_means w closed)

-- its times are those of its round
pub settled_round : (w : Waits) → Closed w → {k : ℕ} {xs : List ℤ} → Answer w k xs → (i : ℕ) → i < w.size → time_at xs i ≡ round w k i
settled_round w closed {k} a =
    let sound = a.least.sound in
    least_unique a.least (repeat_least w closed k a.repeats (λ i i<. ≤ℤ-trans (round_below w closed sound k i i<) (sound.within i i<)))

-- where sound times exist, there is a settled answer
pub sound_settles : (w : Waits) → Closed w → {s : ℕ → ℤ} → Sound w s → (k : ℕ) × (xs : List ℤ) × (settle w ≡ settled k xs)
unfolding Means
sound_settles w closed {s} sound = go (settle w) refl
  where
    go : (a : Settled) → settle w ≡ a → (k : ℕ) × (xs : List ℤ) × (settle w ≡ settled k xs)
    go impossible e = absurd ((impossible_iff w closed).0 e s sound)
    go (settled k xs) e = (k, xs, e)

-- "The rounds reported are the first round that the next one repeats: at most one less than the number of listed records, and 0
-- for none": wherever sound times exist, there is such a round
pub first_repeat : (w : Waits) → Closed w → {s : ℕ → ℤ} → Sound w s → (k : ℕ) × Repeats w k × NoneBefore w k × (k ≤ w.size - 1)
first_repeat w closed sound =
    let there = sound_settles w closed sound in
    let a = settled_answer w closed there.2 in
    (there.0, a.repeats, a.first, a.bound)
