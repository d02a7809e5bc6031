-- Laws of the sign, over any form `size` of what stands behind it.
use Rattle.std.specs.Prelude.{Option, Some, None, ℤ}
use Prim.Native.Nat.{ℕ, zero, suc, ◌-◌, ◌≤◌}
use mathlib.Core.Path.{◌≡◌, refl, ◌∙◌}
use mathlib.Core.List.{List, [], ◌∷◌}
use mathlib.Core.Bool.{Bool, true, false}
use native.Mathlib.Omega.{arith}
use native.Mathlib.Nat.{le_refl}
use lib.ListN.{length, take, drop, length-drop}
use lib.Seq.{take_all}
use lib.IntN.{pos, neg_ℤ}
use Rattle.paper.specs.Forms.{has_minus, signed, behind_sign}
use Rattle.forms.proofs.Tests.{never}

pub no_byte : (s : List ℕ) → length s ≡ 0 → false ≡ has_minus s
unfolding has_minus
no_byte [] e = refl
no_byte (b ∷ s) e = absurd (omega arith)

pub minus_byte : (s : List ℕ) {t : Bool} → t ≡ has_minus s → t ≡ true → 1 ≤ length s
unfolding has_minus
minus_byte [] e p = never (cc)
minus_byte (b ∷ s) e p = omega arith

pub never_good : (minus : Bool) → None ≡ signed minus None
unfolding signed
never_good true = refl
never_good false = refl

pub minus_good : (m : ℕ) → (m ≡ 0 → ⊥) → signed true (Some m) ≡ Some (neg_ℤ (pos m))
unfolding signed
minus_good zero h = absurd (h refl)
minus_good (suc m) h = refl

-- the part of s from `from` on, as the code lends it
pub part_from : (from : ℕ) (s : List ℕ) → take (length s - from) (drop from s) ≡ drop from s
part_from from s = take_all (length s - from) (drop from s) (simp length-drop (le_refl _))

-- the two ways of a reader: t is the test for the minus, o the size that was read, r the answer
module _ (size : List ℕ → Option ℕ) (s : List ℕ) {t : Bool} {o : Option ℕ} {r : Option ℤ} (e : t ≡ has_minus s) where
  pub behind_minus : t ≡ true → o ≡ size (take (length s - 1) (drop 1 s)) → r ≡ signed true o → r ≡ behind_sign size s
  unfolding behind_sign
  behind_minus p q u = u ∙ rw (q, part_from, ← e, p)

  pub behind_none : t ≡ false → o ≡ size s → r ≡ signed false o → r ≡ behind_sign size s
  unfolding behind_sign
  behind_none p q u = u ∙ rw (q, ← e, p)
