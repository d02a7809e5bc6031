-- A wait that is kept exactly, told without the sum: a time that is not before the earlier one, and as far behind it as the wait.
use Prim.Native.Nat.{ℕ, suc, ◌+◌, ◌-◌}
use native.Mathlib.Decide.{ℕ_discrete}
use native.Mathlib.Omega.{arith}
use mathlib.Core.Path.{◌≡◌, refl, sym, ◌∙◌}
use mathlib.Core.Bool.{Bool, true, false, cond}
use lib.IntN.{ℤ, pos, negsuc, ◌+ℤ◌}
use lib.Signed.{lt_z}
use lib.Dec.{eqb, ltb}
use borrow.Author.Tests.{ltb-true, ltb-false, eq-eqb, ne_eqb}
use Rattle.paper.specs.Gaps.{apart}
use Rattle.paper.specs.Tests.{eq_z}

-- two tests of one fact
alike : (a b c d : ℕ) → (a ≡ b → c ≡ d) → (c ≡ d → a ≡ b) → eqb a b ≡ eqb c d
alike a b c d forth back = go (ℕ_discrete a b)
  where
    go : Dec (a ≡ b) → eqb a b ≡ eqb c d
    go (yes e) = rw (eq-eqb a b e, eq-eqb c d (forth e))
    go (no n) = rw (ne_eqb a b n, ne_eqb c d (λ e. n (back e)))

before_none : (later earlier : ℤ) (wait : ℕ) → lt_z later earlier ≡ true → false ≡ eq_z later (earlier +ℤ pos wait)
before_none (pos a) (pos b) n h = let l = ltb-true a b h in sym (ne_eqb a (b + n) (λ e. omega arith))
before_none (pos a) (negsuc b) n h = absurd (let z : ◌≡◌ {A = ℕ} 0 1 = cc in omega arith)
before_none (negsuc a) (pos b) n h = refl
before_none (negsuc a) (negsuc b) n h = go (ltb n (suc b))
  where
    go : (t : Bool) → false ≡ eq_z (negsuc a) (cond t (negsuc (suc b - suc n)) (pos (n - suc b)))
    go true = let l = ltb-true b a h in sym (ne_eqb a (suc b - suc n) (λ e. omega arith))
    go false = refl

behind_exact : (later earlier : ℤ) (wait : ℕ) → lt_z later earlier ≡ false → eqb (apart earlier later) wait ≡ eq_z later (earlier +ℤ pos wait)
behind_exact (pos a) (pos b) n h = let l = ltb-false a b h in alike (a - b) n a (b + n) (λ e. omega arith) (λ e. omega arith)
behind_exact (pos a) (negsuc b) n h = go (ltb n (suc b)) refl
  where
    go : (t : Bool) → ltb n (suc b) ≡ t → eqb (a + suc b) n ≡ eq_z (pos a) (cond t (negsuc (suc b - suc n)) (pos (n - suc b)))
    go true e = let l = ltb-true n (suc b) e in ne_eqb (a + suc b) n (λ q. omega arith)
    go false e = let l = ltb-false n (suc b) e in alike (a + suc b) n a (n - suc b) (λ q. omega arith) (λ q. omega arith)
behind_exact (negsuc a) (pos b) n h = absurd (let z : ◌≡◌ {A = ℕ} 0 1 = cc in omega arith)
behind_exact (negsuc a) (negsuc b) n h = go (ltb n (suc b)) refl
  where
    go : (t : Bool) → ltb n (suc b) ≡ t → eqb (b - a) n ≡ eq_z (negsuc a) (cond t (negsuc (suc b - suc n)) (pos (n - suc b)))
    go true e =
        let l = ltb-true n (suc b) e in let k = ltb-false b a h in alike (b - a) n a (suc b - suc n) (λ q. omega arith) (λ q. omega arith)
    go false e = let l = ltb-false n (suc b) e in ne_eqb (b - a) n (λ q. omega arith)

-- ---- as the code tells it

module _ (later earlier : ℤ) (wait : ℕ) {u v : ℤ} (u-is : u ≡ later) (v-is : v ≡ earlier) {t : Bool} (told : t ≡ lt_z u v) where
  test : (s : Bool) → t ≡ s → lt_z later earlier ≡ s
  test s e = rw (← u-is, ← v-is) (sym told ∙ e)

  pub before_it : t ≡ true → false ≡ eq_z later (earlier +ℤ pos wait)
  before_it e = before_none later earlier wait (test true e)

  pub not_before : t ≡ false → {gap : ℕ} → gap ≡ apart v u → eqb gap wait ≡ eq_z later (earlier +ℤ pos wait)
  not_before e is = rw (is, u-is, v-is) (behind_exact later earlier wait (test false e))
