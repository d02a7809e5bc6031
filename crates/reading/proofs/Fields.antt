-- A field, the space that ends it, and what follows.
use Rattle.std.specs.Prelude.{Some}
use Prim.Native.Nat.{ℕ, suc, ◌+◌, ◌≤◌, ◌<◌}
use mathlib.Core.Path.{◌≡◌, refl, sym, ap, ◌∙◌}
use mathlib.Core.List.{List, [], ◌∷◌, ◌++◌}
use mathlib.Core.Bool.{Bool, true, false}
use native.Mathlib.Omega.{arith}
use native.Mathlib.Nat.{zero-add, add-zero}
use lib.ListN.{length, take, drop, length-append}
use lib.Seq.{take-append_seam}
use lib.Dec.{eqb}
use borrow.Author.Tests.{lt-ltb, ltb-true, eq-eqb, ne_eqb, eqb-true, eqb-false}
use Rattle.octets.specs.Octets.{index_of, index_after}
use Rattle.paper.specs.Line.{field, after, goes_on, rest}
use Rattle.forms.specs.Free.{Free}

-- ---- the first b

-- it is within the bytes, or their end
pub index_within : (b : ℕ) (l : List ℕ) → index_of b l ≤ length l
unfolding index_of
index_within b [] = omega arith
index_within b (x ∷ l) = go (eqb x b) (index_within b l)
  where
    go : (t : Bool) → index_of b l ≤ length l → index_after t (index_of b l) ≤ length (x ∷ l)
    go true h = omega arith
    go false h = omega arith

-- after bytes that are free of it
pub index_past : (b : ℕ) (f r : List ℕ) → Free b f → index_of b (f ++ r) ≡ length f + index_of b r
unfolding index_of Free
index_past b [] r h = sym (zero-add (index_of b r))
index_past b (x ∷ f) r h = rw (ne_eqb x b h.0, index_past b f r h.1) (omega arith)

index_free : (b : ℕ) (f r : List ℕ) → Free b f → index_of b (f ++ (b ∷ r)) ≡ length f
unfolding index_of
index_free b f r h = index_past b f (b ∷ r) h ∙ rw (eq-eqb b b refl) (add-zero (length f))

-- there is none before it
pub free_before : (b : ℕ) (l : List ℕ) → Free b (take (index_of b l) l)
unfolding index_of Free
free_before b [] = tt
free_before b (x ∷ l) = go (free_before b l) (eqb x b) refl
  where
    go : Free b (take (index_of b l) l) → (t : Bool) → eqb x b ≡ t → Free b (take (index_after t (index_of b l)) (x ∷ l))
    go later true e = tt
    go later false e = (eqb-false x b e, later)

-- where there is one, the bytes are those before it, it, and those after it
pub split_first : (b : ℕ) (l : List ℕ) → index_of b l < length l → l ≡ take (index_of b l) l ++ (b ∷ drop (suc (index_of b l)) l)
unfolding index_of
split_first b [] h = absurd (omega arith)
split_first b (x ∷ l) h = go (split_first b l) (eqb x b) refl h
  where
    go : (index_of b l < length l → l ≡ take (index_of b l) l ++ (b ∷ drop (suc (index_of b l)) l))
        → (t : Bool) → eqb x b ≡ t → index_after t (index_of b l) < length (x ∷ l)
        → x ∷ l ≡ take (index_after t (index_of b l)) (x ∷ l) ++ (b ∷ drop (suc (index_after t (index_of b l))) (x ∷ l))
    go later true e h = ap (λ (y : ℕ). y ∷ l) (eqb-true x b e)
    go later false e h = ap (λ (m : List ℕ). x ∷ m) (later (omega arith))

pub drop_past : (x : ℕ) (f r : List ℕ) → drop (suc (length f)) (f ++ (x ∷ r)) ≡ r
drop_past x [] r = refl
drop_past x (y ∷ f) r = drop_past x f r

-- ---- a field with a space after it

module _ (f r : List ℕ) (free : Free 32 f) where
  pub field_of : field (f ++ (32 ∷ r)) ≡ f
  unfolding field
  field_of = rw (index_free 32 f r free) (take-append_seam f (32 ∷ r))

  pub after_of : after (f ++ (32 ∷ r)) ≡ r
  unfolding after
  after_of = rw (index_free 32 f r free) (drop_past 32 f r)

  pub goes_on_lem : goes_on (f ++ (32 ∷ r)) ≡ true
  unfolding goes_on
  goes_on_lem = rw (index_free 32 f r free) (lt-ltb (length f) (length (f ++ (32 ∷ r))) (rw length-append (omega arith)))

  pub rest_of : rest (f ++ (32 ∷ r)) ≡ Some r
  unfolding rest
  rest_of = rw (goes_on_lem, after_of)

pub field_free : (l : List ℕ) → Free 32 (field l)
unfolding field
field_free l = free_before 32 l

-- a line that goes on is its first field, a space, and what follows
pub field_joined : (l : List ℕ) → goes_on l ≡ true → l ≡ field l ++ (32 ∷ after l)
unfolding field after goes_on
field_joined l e = split_first 32 l (ltb-true _ _ e)
