-- A cursor moved over one field.
use Rattle.std.specs.Prelude.{Option, Some, None}
use Prim.Native.Nat.{ℕ, suc, ◌+◌, ◌-◌, ◌≤◌, ◌<◌}
use mathlib.Core.Path.{◌≡◌, refl, sym, ap, ◌∙◌}
use mathlib.Core.List.{List}
use mathlib.Core.Bool.{Bool, true, false, cond}
use native.Mathlib.Numerals.{add-one}
use native.Mathlib.Omega.{arith}
use lib.ListN.{length, take, drop, length-drop}
use lib.Seq.{drop-drop}
use lib.Dec.{ltb}
use lib.IntN.{ℤ, pos}
use native.Mathlib.Nat.{add-suc}
use borrow.Author.Tests.{lt-ltb, le-ltb, ltb-true, ltb-false}
use Rattle.octets.specs.Octets.{index_of}
use Rattle.paper.specs.Line.{field, after, goes_on, rest, First, nothing, first, first_of}
use Rattle.field.specs.Cursor.{rest_at, got_of, got_next, counted_of, counted_next, Tells}

module _ (l : List ℕ) (at : ℕ) where
  pub past : length l < at → rest_at l at ≡ None
  unfolding rest_at
  past h = rw (lt-ltb (length l) at h)

  pub inside : at ≤ length l → rest_at l at ≡ Some (drop at l)
  unfolding rest_at
  inside h = rw (le-ltb (length l) at h)

pub at_start : (l : List ℕ) → rest_at l 0 ≡ Some l
at_start l = inside l 0 (omega arith)

-- a field that starts at the cursor and ends where the search for a space ended
module _ (l : List ℕ) (at end : ℕ) (low : at ≤ length l) (found : end ≡ at + index_of 32 (drop at l)) where
  ends : end ≡ at + index_of 32 (drop at l)
  ends = found

  pub part : take (end - at) (drop at l) ≡ field (drop at l)
  unfolding field
  part = let e : end - at ≡ index_of 32 (drop at l) = omega (arith, ends) in rw e

  pub next : rest_at l (end + 1) ≡ rest (drop at l)
  unfolding rest goes_on after
  next = go (ltb (index_of 32 (drop at l)) (length (drop at l))) refl
    where
      go : (t : Bool) → ltb (index_of 32 (drop at l)) (length (drop at l)) ≡ t
          → rest_at l (end + 1) ≡ cond t (Some (drop (suc (index_of 32 (drop at l))) (drop at l))) None
      go true e =
          let h = ltb-true (index_of 32 (drop at l)) (length (drop at l)) e in
          inside l (end + 1) (omega (arith, ends, simp length-drop at h))
          ∙ ap Some (rw (ends, add-one, ← add-suc) (sym (drop-drop (suc (index_of 32 (drop at l))) at l)))
      go false e = let h = ltb-false (index_of 32 (drop at l)) (length (drop at l)) e in past l (end + 1) (omega (arith, ends, simp length-drop at h))

  module _ (form : List ℕ → Option ℤ) where
    pub bad_here : form (take (end - at) (drop at l)) ≡ None → nothing ≡ first_of form (rest_at l at)
    unfolding first_of
    bad_here e = rw (inside l at low, ← part, e)

    pub good_here : {u v : ℤ} → u ≡ v → form (take (end - at) (drop at l)) ≡ Some v → first u (rest_at l (end + 1)) ≡ first_of form (rest_at l at)
    unfolding first_of
    good_here p e = rw (p, inside l at low, ← part, e, next)

pub none_here : (form : List ℕ → Option ℤ) (l : List ℕ) (at : ℕ) → length l < at → nothing ≡ first_of form (rest_at l at)
unfolding first_of
none_here form l at h = rw (past l at h)

-- ---- what the answer of a reader says

module _ (l : List ℕ) (r : Option (ℤ × ℕ)) (found : First) (told : Tells l (got_of l r) found (got_next r)) where
  pub got : (v : ℤ) (next : ℕ) → r ≡ Some (v, next) → found ≡ first v (rest_at l next)
  unfolding got_of
  got v next e = sym told.is ∙ ap (got_of l) e

  pub got_near : (v : ℤ) (next : ℕ) → r ≡ Some (v, next) → next ≤ length l + 1
  got_near v next e = rw e at told.near

  pub not_got : r ≡ None → found ≡ nothing
  unfolding got_of
  not_got e = sym told.is ∙ ap (got_of l) e

module _ (l : List ℕ) (r : Option (ℕ × ℕ)) (found : First) (told : Tells l (counted_of l r) found (counted_next r)) where
  pub counted : (n next : ℕ) → r ≡ Some (n, next) → found ≡ first (pos n) (rest_at l next)
  unfolding counted_of
  counted n next e = sym told.is ∙ ap (counted_of l) e

  pub counted_near : (n next : ℕ) → r ≡ Some (n, next) → next ≤ length l + 1
  counted_near n next e = rw e at told.near

  pub not_counted : r ≡ None → found ≡ nothing
  unfolding counted_of
  not_counted e = sym told.is ∙ ap (counted_of l) e

-- an answer without a cursor
pub without : {A : Type 0} {said there : A} (l : List ℕ) → said ≡ there → Tells l said there 0
without l e = record { is = e; near = omega arith }

pub instead : {A : Type 0} {l : List ℕ} {said there other : A} {cursor : ℕ} → Tells l said there cursor → there ≡ other → Tells l said other cursor
instead told e = record { is = told.is ∙ e; near = told.near }
