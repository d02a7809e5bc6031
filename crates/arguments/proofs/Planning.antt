-- The first argument told by its length and its byte.
use Rattle.std.specs.Prelude.{Some, None}
use Prim.Native.Nat.{ℕ}
use mathlib.Core.Path.{◌≡◌, refl}
use mathlib.Core.Bool.{cond}
use mathlib.Core.List.{List, [], ◌∷◌}
use native.Mathlib.Omega.{arith}
use lib.ListN.{length, get_or}
use lib.Dec.{eqb}
use Rattle.arguments.specs.Arguments.{choice_named}

pub other_length : (word : List ℕ) → (length word ≡ 1 → ⊥) → choice_named word ≡ None
unfolding choice_named
other_length [] h = refl
other_length (a ∷ []) h = absurd (h refl)
other_length (a ∷ b ∷ rest) h = refl

pub one_byte : (word : List ℕ) → length word ≡ 1 → choice_named word ≡ cond (eqb (get_or word 0 0) 49) (Some 1) (cond (eqb (get_or word 0 0) 50) (Some 2) None)
unfolding choice_named
one_byte [] h = absurd (omega arith)
one_byte (a ∷ []) h = refl
one_byte (a ∷ b ∷ rest) h = absurd (omega arith)

pub ruleset naming = (other_length, one_byte)
