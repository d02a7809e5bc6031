-- Along a way back whose waits are kept exactly: its records, its waits, and what is left where a part of it is cut out.
use Prim.Native.Nat.{ℕ, zero, suc, ◌+◌, ◌≤◌, ◌<◌}
use native.Mathlib.Omega.{arith}
use native.Mathlib.Numerals.{add-one}
use mathlib.Core.Path.{◌≡◌, refl}
use mathlib.Core.List.{List, [], ◌∷◌}
use lib.ListN.{length, drop}
use lib.IntN.{ℤ, pos, ◌+ℤ◌}
use Rattle.paper.specs.Clock.{Waits}
use Rattle.rounds.specs.Meaning.{Wait, Closed}
use Rattle.causes.specs.Back.{at}
use Rattle.causes.proofs.Held.{Held, still, goes}

module _ {w : Waits} {x : ℕ → ℤ} where
  pub held_some : {i : ℕ} {c : List ℕ} → Held w x i c → 0 < length c
  held_some (still e) = omega arith
  held_some (goes wait e h) = omega arith

  -- it begins with its record
  pub held_begins : {i : ℕ} {c : List ℕ} → Held w x i c → (d : List ℕ) × (c ≡ i ∷ d)
  held_begins (still e) = ([], refl)
  held_begins (goes {c = c} wait e h) = (c, refl)

  pub held_one : {i : ℕ} {c : List ℕ} → Held w x i c → length c ≤ 1 → c ≡ i ∷ []
  held_one (still e) l = refl
  held_one (goes wait e h) l = absurd (omega (arith, held_some h))

  pub held_alone : {i : ℕ} {c : List ℕ} → Held w x i c → length c ≤ 1 → x i ≡ w.original i
  held_alone (still e) l = e
  held_alone (goes wait e h) l = absurd (omega (arith, held_some h))

  pub held_inside : Closed w → {i : ℕ} {c : List ℕ} → i < w.size → Held w x i c → (a : ℕ) → a < length c → at c a < w.size
  held_inside closed i< (still e) zero l = i<
  held_inside closed i< (still e) (suc a) l = absurd (omega arith)
  held_inside closed i< (goes wait e h) zero l = i<
  held_inside closed i< (goes {i = i} {j = j} {v = v} wait e h) (suc a) l = held_inside closed (closed i j v i< wait) h a (omega arith)

  -- each wait, and that it is kept exactly
  pub held_tight : {i : ℕ} {c : List ℕ} → Held w x i c → (a : ℕ) → a + 1 < length c
      → (v : ℕ) × Wait w (at c a) (at c (a + 1)) v × (x (at c a) ≡ x (at c (a + 1)) +ℤ pos v)
  held_tight (still e) a l = absurd (omega arith)
  held_tight (goes {v = v} wait e h) zero l = rw (held_begins h).1 (v, wait, e)
  held_tight (goes wait e h) (suc a) l = rw (add-one (suc a)) (rw (add-one a) at (held_tight h a (omega arith)))

  -- from any of its records on it is the way back from there
  pub held_from : {i : ℕ} {c : List ℕ} → Held w x i c → (a : ℕ) → a < length c → Held w x (at c a) (drop a c)
  held_from (still e) zero l = still e
  held_from (still e) (suc a) l = absurd (omega arith)
  held_from (goes wait e h) zero l = goes wait e h
  held_from (goes wait e h) (suc a) l = held_from h a (omega arith)

  -- and from any of its records on another way back will do
  pub held_cut : {i : ℕ} {c : List ℕ} → Held w x i c → (a : ℕ) → a < length c → {d : List ℕ} → Held w x (at c a) d
      → (b : List ℕ) × Held w x i b × (length b ≡ a + length d)
  held_cut (still e) zero l {d} g = (d, g, omega arith)
  held_cut (still e) (suc a) l g = absurd (omega arith)
  held_cut (goes wait e h) zero l {d} g = (d, g, omega arith)
  held_cut (goes {i = i} wait e h) (suc a) l g = let (b, f, m) = held_cut h a (omega arith) g in (i ∷ b, goes wait e f, omega arith)
