-- One round over slices: the loop that fills `to` with the round after `xs`, and what it tells at the end.
use Prim.Native.Nat.{ℕ, ◌+◌, ◌<◌}
use native.Mathlib.Omega.{arith}
use mathlib.Core.Path.{◌≡◌, ◌∙◌, sym}
use mathlib.Core.List.{List}
use mathlib.Core.Bool.{Bool, true, false}
use lib.ListN.{length, set}
use lib.IntN.{ℤ}
use lib.Signed.{◌≤ℤ◌, ◌<ℤ◌, clash_ℤ}
use Rattle.paper.specs.Clock.{limit, time_at}
use Rattle.engine.specs.declared.Turn.TheVariants.{Over, Same, Moved}
use Rattle.engine.specs.Inner.{Told, Within, Turned}
use Rattle.engine.proofs.Filling.{fill_more, filled_same, told_good, told_bad}

-- up to record i
pub record Turning (rule : List ℤ → ℕ → ℤ) (xs to : List ℤ) (same : Bool) (i : ℕ) : Type 0 where
  pub filled : (k : ℕ) → k < i → (time_at to k ≡ rule xs k) × Within to k
  pub tells : Told same (λ k. rule xs k ≡ time_at xs k) i

module _ (rule : List ℤ → ℕ → ℤ) (xs : List ℤ) where
  pub turn_none : (to : List ℤ) → Turning rule xs to true 0
  turn_none to = record { filled = λ k l. absurd (omega arith); tells = λ k l. absurd (omega arith) }

  module _ {to : List ℤ} {same : Bool} {i : ℕ} (t : Turning rule xs to same i) (v : ℤ) (e : v ≡ rule xs i) where
    -- a time above the limit
    pub turn_over : i < length xs → limit <ℤ v → Turned rule xs Over to
    unfolding Turned
    turn_over i< high low = clash_ℤ high (rw e (low i i<))

    -- a time within it, put in its place
    module _ (l : i < length to) (low : v ≤ℤ limit) where
      filled_more : (k : ℕ) → k < i + 1 → (time_at (set to i v) k ≡ rule xs k) × Within (set to i v) k
      filled_more = fill_more (λ k z. (z ≡ rule xs k) × (z ≤ℤ limit)) to i t.filled l v (e, low)

      turn_good : v ≡ time_at xs i → Turning rule xs (set to i v) same (i + 1)
      turn_good here = record { filled = filled_more; tells = told_good _ same i t.tells (sym e ∙ here) }

      pub turn_bad : (v ≡ time_at xs i → ⊥) → Turning rule xs (set to i v) false (i + 1)
      turn_bad not = record { filled = filled_more; tells = told_bad _ i (i + 1) (omega arith) (λ here. not (e ∙ here)) }

    -- a time that stayed, and so is not above the limit either
    pub turn_still : i < length to → time_at xs i ≤ℤ limit → v ≡ time_at xs i → Turning rule xs (set to i v) same (i + 1)
    turn_still l low here = turn_good l (rw here low) here

  module _ {to : List ℤ} {i : ℕ} (end : i ≡ length xs) (size : length to ≡ length xs) where
    pub turned_same : Turning rule xs to true i → Turned rule xs Same to
    unfolding Turned
    turned_same t =
        let t : Turning rule xs to true (length xs) = rw end at t in
        (t.tells, filled_same to xs size (λ k k<. (t.filled k k<).0 ∙ t.tells k k<))

    pub turned_moved : Turning rule xs to false i → Turned rule xs Moved to
    unfolding Turned
    turned_moved t =
        let t : Turning rule xs to false (length xs) = rw end at t in
        (t.tells, t.filled, size)
