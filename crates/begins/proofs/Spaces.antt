-- From one space to the next: whether there is a field, and its column.
use Rattle.std.specs.Prelude.{Some, None}
use Prim.Native.Nat.{ℕ, zero, suc, ◌+◌, ◌-◌, ◌≤◌, ◌<◌}
use mathlib.Core.Path.{◌≡◌, refl, ◌∙◌}
use mathlib.Core.List.{List}
use mathlib.Core.Bool.{true, false}
use native.Mathlib.Omega.{arith}
use native.Mathlib.Numerals.{add-one}
use native.Mathlib.Nat.{zero-add, add-suc}
use borrow.Author.Tests.{lt-ltb, le-ltb}
use lib.ListN.{length, drop, length-drop}
use lib.Seq.{drop-drop}
use Rattle.octets.specs.Octets.{index_of}
use Rattle.paper.specs.Line.{after, goes_on, fields_above}
use Rattle.paper.specs.Columns.{column_of}
use Rattle.begins.specs.Begins.{NotThere, Begins}

-- a field from a cursor on, which is field k of the line
pub record Left (l : List ℕ) (k left at : ℕ) : Type 0 where
  pub inside : at ≤ length l
  pub count : fields_above k l ≡ fields_above left (drop at l)
  pub column : column_of k l ≡ at + column_of left (drop at l)

pub at_start : (l : List ℕ) (k : ℕ) {left : ℕ} → left ≡ k → Left l k left 0
at_start l k e = rw e (record { inside = omega arith; count = refl; column = rw zero-add })

pub reached : (l : List ℕ) (k left at : ℕ) → Left l k left at → left ≤ 0 → Begins l k (Some at)
unfolding Begins fields_above column_of
reached l k zero at h n = record { is = h.count; column = h.column; inside = h.inside }
reached l k (suc left) at h n = absurd (omega arith)

-- a turn, with a field left to step over
module _ (l : List ℕ) (k left at : ℕ) (h : Left l k left at) (some_left : 0 < left) (end : ℕ) (found : end ≡ at + index_of 32 (drop at l)) where
  place : end ≡ at + index_of 32 (drop at l)
  place = found

  -- the line ends with the field
  module _ (e : end ≡ length l) where
    ends : goes_on (drop at l) ≡ false
    unfolding goes_on
    ends = le-ltb (index_of 32 (drop at l)) (length (drop at l)) (simp length-drop (omega (arith, place)))

    pub stops : Begins l k None
    unfolding Begins fields_above column_of
    stops = go left some_left h.count h.column
      where
        go : (n : ℕ) → 0 < n → fields_above k l ≡ fields_above n (drop at l) → column_of k l ≡ at + column_of n (drop at l) → NotThere l k
        go zero z c d = absurd (omega arith)
        go (suc n) z c d = record { is = c ∙ rw ends; column = d ∙ rw ends (simp length-drop (omega (arith, h.inside))) }

  -- a space ends it
  module _ (n : end ≡ length l → ⊥) (m : end ≤ length l) where
    on : goes_on (drop at l) ≡ true
    unfolding goes_on
    on = lt-ltb (index_of 32 (drop at l)) (length (drop at l)) (simp length-drop (omega (arith, place, h.inside)))

    behind : after (drop at l) ≡ drop (end + 1) l
    unfolding after
    behind = rw (place, add-one, ← add-suc) (drop-drop (suc (index_of 32 (drop at l))) at l)

    one_on : Left l k (left - 1) (end + 1)
    unfolding fields_above column_of
    one_on = go left some_left h.count h.column
      where
        go : (i : ℕ) → 0 < i → fields_above k l ≡ fields_above i (drop at l) → column_of k l ≡ at + column_of i (drop at l) → Left l k (i - 1) (end + 1)
        go zero z c d = absurd (omega arith)
        go (suc i) z c d =
            let one_less : suc i - 1 ≡ i = omega arith in
            record { inside = omega arith; count = c ∙ rw (on, behind, one_less); column = d ∙ rw (on, behind, one_less) (omega (arith, place)) }

    pub goes : {behind : ℕ} → behind ≡ left - 1 → Left l k behind (end + 1)
    goes e = rw e one_on
