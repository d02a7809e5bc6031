-- The six fields, and a line with fewer than six.
use Rattle.std.specs.Prelude.{Option, Result, Some, None, Ok, Err}
use Prim.Native.Nat.{ℕ, suc}
use mathlib.Core.Path.{◌≡◌, refl, sym}
use mathlib.Core.List.{List}
use mathlib.Core.Bool.{Bool, true, false, cond, ◌&&◌}
use lib.IntN.{ℤ}
use Rattle.paper.specs.Forms.{whole_of, time_of}
use Rattle.paper.specs.Line.{field, after, goes_on, rest, fields_above, nothing, first, on_field, on_first, first_of, count_of, Begun, bad, six, place_of, six_of, head_of}
use Rattle.paper.specs.declared.Fault.{Fault}
use Rattle.paper.specs.declared.Head.{Head}
use Rattle.field.specs.Cursor.{rest_at, Tells}
use Rattle.field.proofs.Cursors.{at_start}
use Rattle.fields.specs.Cursor.{begun_of, begun_next, bad_field}

-- ---- the ways that the six fields can go, by what was read of the first three

module _ (l : List ℕ) where
  pub bad_kind : first_of whole_of (rest_at l 0) ≡ nothing → bad Fault.Form 0 ≡ six_of (Some l)
  unfolding six_of
  bad_kind e = rw (rw (at_start l) at e)

  module _ (k : ℤ) (f₁ : Option (List ℕ)) (first₀ : first_of whole_of (rest_at l 0) ≡ first k f₁) where
    first₁ : first_of whole_of (Some l) ≡ first k f₁
    first₁ = rw (at_start l) at first₀

    pub bad_event : first_of whole_of f₁ ≡ nothing → bad Fault.Form 1 ≡ six_of (Some l)
    unfolding six_of
    bad_event e = rw (first₁, e)

    module _ (e : ℤ) (f₂ : Option (List ℕ)) (first₂ : first_of whole_of f₁ ≡ first e f₂) where
      pub bad_time : first_of time_of f₂ ≡ nothing → bad Fault.Stamp 2 ≡ six_of (Some l)
      unfolding six_of
      bad_time h = rw (first₁, first₂, h)

      pub good_three : (t : ℤ) (f₃ : Option (List ℕ)) → first_of time_of f₂ ≡ first t f₃ → {k' e' t' : ℤ} → k' ≡ k → e' ≡ e → t' ≡ t → place_of k' e' t' f₃ ≡ six_of (Some l)
      unfolding six_of
      good_three t f₃ first₃ p q r = rw (p, q, r, first₁, first₂, first₃)

-- the six fields put together
pub made : {k k' e e' t t' p p' q q' : ℤ} (n : ℕ) (f : Option (List ℕ)) → k ≡ k' → e ≡ e' → t ≡ t' → p ≡ p' → q ≡ q'
    → six (record { kind = k; event = e; time = t; processor = p; process = q; count = n }) f
    ≡ six (record { kind = k'; event = e'; time = t'; processor = p'; process = q'; count = n }) f
made n f a b c d e = rw (a, b, c, d, e)

-- ---- six good fields are six fields

-- more than n fields, where there may be none at all
unfoldable above : ℕ → Option (List ℕ) → Bool
above n None = false
above n (Some l) = fields_above n l

module _ (h : Head) (left : Option (List ℕ)) (fault : Fault) (k : ℕ) where
  -- a field is read and n more behind it
  one_more : (form : List ℕ → Option ℤ) (n : ℕ) (f : Option (List ℕ)) (more : ℤ → Option (List ℕ) → Begun)
      → ((v : ℤ) (g : Option (List ℕ)) → more v g ≡ six h left → above n g ≡ true)
      → on_first (first_of form f) (bad fault k) more ≡ six h left → above (suc n) f ≡ true
  unfolding first_of above fields_above rest
  one_more form n None more later e = cc
  one_more form n (Some l) more later e = read (form (field l)) e
    where
      behind : (b : Bool) → above n (cond b (Some (after l)) None) ≡ true → (b && fields_above n (after l)) ≡ true
      behind true e = e
      behind false e = e

      read : (x : Option ℤ) → on_first (on_field x nothing (λ v. first v (rest l))) (bad fault k) more ≡ six h left
          → (goes_on l && fields_above n (after l)) ≡ true
      read (Some v) e = behind (goes_on l) (later v (rest l) e)
      read None e = cc

  -- the last one
  one : (form : List ℕ → Option ℤ) (f : Option (List ℕ)) (more : ℤ → Option (List ℕ) → Begun)
      → on_first (first_of form f) (bad fault k) more ≡ six h left → above 0 f ≡ true
  unfolding first_of above fields_above
  one form None more e = cc
  one form (Some l) more e = refl

six_there : (f : Option (List ℕ)) (h : Head) (left : Option (List ℕ)) → six_of f ≡ six h left → above 5 f ≡ true
unfolding six_of place_of
six_there f h left =
    one_more h left Fault.Form 0 whole_of 4 f _ (λ kind f₁.
    one_more h left Fault.Form 1 whole_of 3 f₁ _ (λ event f₂.
    one_more h left Fault.Stamp 2 time_of 2 f₂ _ (λ time f₃.
    one_more h left Fault.Form 3 whole_of 1 f₃ _ (λ processor f₄.
    one_more h left Fault.Form 4 whole_of 0 f₄ _ (λ process f₅.
    one h left Fault.Form 5 count_of f₅ _)))))

pub six_head : (l : List ℕ) (h : Head) (left : Option (List ℕ)) → six_of (Some l) ≡ six h left → head_of l ≡ six h left
unfolding head_of above
six_head l h left e = rw (six_there (Some l) h left e, e)

-- ---- from the six to the line

module _ (l : List ℕ) (r : Result (Head × ℕ) (Fault × ℕ)) (told : Tells l (begun_of l r) (six_of (Some l)) (begun_next r)) where
  pub good_six : (h : Head) (next : ℕ) → r ≡ Ok (h, next) → Tells l (begun_of l (Ok (h, next))) (head_of l) next
  unfolding begun_of
  good_six h next e =
      let there = rw e at told in
      record { is = sym (six_head l h (rest_at l next) (sym there.is)); near = there.near }

  pub bad_six : (fault : Fault) (k : ℕ) → r ≡ Err (fault, k) → bad_field l fault k ≡ head_of l
  unfolding begun_of head_of bad_field
  bad_six fault k e = let there = rw e at told.is in rw (← there)
