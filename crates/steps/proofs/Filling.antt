-- A loop that puts something new into each place of a slice, from the front on, by what stood there: what is left to do is as it was.
use Prim.Native.Nat.{ℕ, ◌+◌, ◌≤◌}
use native.Mathlib.Omega.{arith}
use mathlib.Core.Path.{◌≡◌, refl, ◌∙◌}
use mathlib.Core.List.{List}
use lib.ListN.{get_or, set}
use lib.Seq.{get_or-set_other}

pub record Left (was out : List ℕ) (i : ℕ) : Type 0 where
  pub rest : (k : ℕ) → i ≤ k → get_or out k 0 ≡ get_or was k 0

pub left_all : (was : List ℕ) → Left was was 0
left_all was = record { rest = λ k l. refl }

pub left_more : {was out : List ℕ} {i : ℕ} → Left was out i → (v : ℕ) → Left was (set out i v) (i + 1)
left_more {was} {out} {i} left v = record { rest = λ k l. get_or-set_other out i k v 0 (λ q. omega arith) ∙ left.rest k (omega arith) }
