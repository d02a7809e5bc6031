-- Comparisons of times in the code, as facts, and what is computed from them.
use Prim.Native.Nat.{zero, suc}
use native.Mathlib.Omega.{arith}
use mathlib.Core.Path.{◌≡◌, refl}
use mathlib.Core.List.{List, [], ◌∷◌}
use mathlib.Core.Bool.{Bool, true, false, cond, ◌&&◌}
use Rattle.std.specs.Prelude.{T}
use lib.ListN.{length}
use lib.IntN.{ℤ}
use lib.Signed.{le_z, lt_z, ◌≤ℤ◌, ◌<ℤ◌, le_z_yes, lt_z_yes, lt_z_no, clash_ℤ}
use Rattle.std.specs.Int.{int_max}
use Rattle.std.specs.List.{list_all}
use Rattle.paper.specs.Clock.{limit, later}
use Rattle.rounds.proofs.Order.{≤ℤ-antisym, <ℤ-le}
use Rattle.engine.specs.Inner.{Told, Within}

pub passed : (a b : ℤ) → lt_z a b ≡ true → a <ℤ b
passed a b e = lt_z_yes (rw e tt)

pub failed : (a b : ℤ) → lt_z a b ≡ false → b ≤ℤ a
failed a b e = lt_z_no (rw e tt)

-- the later of two times, where they are the same either
pub max_later : (a b : ℤ) → int_max a b ≡ later a b
max_later a b = go (lt_z b a) (lt_z a b) refl refl
  where
    go : (s t : Bool) → lt_z b a ≡ s → lt_z a b ≡ t → cond s a b ≡ cond t b a
    go true true p q = clash_ℤ (passed b a p) (<ℤ-le (passed a b q))
    go true false p q = refl
    go false true p q = refl
    go false false p q = ≤ℤ-antisym (failed a b q) (failed b a p)

-- a test of all times, as a fact
pub told_all : (xs : List ℤ) → Told (list_all (λ z. le_z z limit) xs) (Within xs) (length xs)
told_all [] = λ k l. absurd (omega arith)
told_all (x ∷ xs) = go (le_z x limit) (list_all (λ z. le_z z limit) xs) refl (told_all xs)
  where
    all_of : le_z x limit ≡ true → Told true (Within xs) (length xs) → Told true (Within (x ∷ xs)) (length (x ∷ xs))
    all_of e all zero l = le_z_yes (rw e tt)
    all_of e all (suc k) l = all k (omega arith)

    go : (here more : Bool) → le_z x limit ≡ here → Told more (Within xs) (length xs) → Told (here && more) (Within (x ∷ xs)) (length (x ∷ xs))
    go true true e all = all_of e all
    go true false e not = λ all. not (λ k l. all (suc k) (omega arith))
    go false more e _ = λ all. let here : T (le_z x limit) = (all 0 (omega arith)).le in rw e at here
