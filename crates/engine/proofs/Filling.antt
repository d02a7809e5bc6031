-- Loops over the places of a slice: one that fills it from the front, and one that keeps in a flag whether something held at every
-- place.
use Prim.Native.Nat.{ℕ, ◌+◌, ◌<◌}
use native.Mathlib.Omega.{arith}
use mathlib.Core.Path.{◌≡◌}
use mathlib.Core.List.{List}
use mathlib.Core.Bool.{Bool, true, false}
use lib.ListN.{length, set}
use lib.Seq.{ext_get_or, get_or-set_same, get_or-set_other}
use lib.IntN.{ℤ, pos}
use borrow.Author.Count.{below_more}
use Rattle.paper.specs.Clock.{time_at}
use Rattle.engine.specs.Inner.{Told}

-- what holds of the times below i, and of v at i, holds of those below i + 1 after v is put there
pub fill_more : (P : ℕ → ℤ → Type 0) (to : List ℤ) (i : ℕ) → ((k : ℕ) → k < i → P k (time_at to k)) → i < length to → (v : ℤ) → P i v
    → (k : ℕ) → k < i + 1 → P k (time_at (set to i v) k)
fill_more P to i filled l v here =
    below_more (λ k. P k (time_at (set to i v) k)) i
    (λ k k<. rw (get_or-set_other to i k v (pos 0) (λ q. omega arith)) (filled k k<))
    (rw (get_or-set_same to i v (pos 0) l) here)

-- a slice that holds at every place what another one holds
pub filled_same : (to xs : List ℤ) → length to ≡ length xs → ((k : ℕ) → k < length xs → time_at to k ≡ time_at xs k) → to ≡ xs
filled_same to xs size e = ext_get_or (pos 0) to xs size (λ k l. e k (omega arith))

-- ---- the flag

pub told_good : (P : ℕ → Type 0) (flag : Bool) (i : ℕ) → Told flag P i → P i → Told flag P (i + 1)
told_good P true i all here = below_more P i all here
told_good P false i not here = λ all. not (λ k l. all k (omega arith))

pub told_bad : (P : ℕ → Type 0) (i n : ℕ) → i < n → (P i → ⊥) → Told false P n
told_bad P i n l not all = not (all i l)
