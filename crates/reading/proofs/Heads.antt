-- The six fields of a line that begins well are in range.
use Rattle.std.specs.Prelude.{Option, Some, None}
use Prim.Native.Nat.{ℕ}
use mathlib.Core.Path.{◌≡◌, refl}
use mathlib.Core.Bool.{Bool, true, false, cond}
use mathlib.Core.List.{List}
use lib.IntN.{ℤ}
use Rattle.paper.specs.Forms.{whole_of, time_of}
use Rattle.paper.specs.Line.{field, rest, fields_above, First, nothing, first, on_field, on_first, first_of, count_of, Begun, bad, six, place_of, six_of, head_of}
use Rattle.paper.specs.declared.Fault.{Fault}
use Rattle.paper.specs.declared.Head.{Head}
use Rattle.forms.proofs.Goods.{whole_in_range, time_in_range}
use Rattle.reading.specs.Tidy.{InRange, Whole}

pub record TidyHead (h : Head) : Type 0 where
  pub time : InRange h.time
  pub kind : Whole h.kind
  pub event : Whole h.event

abbrev pub TidyBegun : Begun → Type 0
TidyBegun (bad fault k) = Unit
TidyBegun (six h fields) = TidyHead h

-- a field in a form keeps to what the form does
module _ (form : List ℕ → Option ℤ) (P : ℤ → Type 0) (good : (s : List ℕ) (v : ℤ) → form s ≡ Some v → P v) where
  on_field_lem : (f : Option (List ℕ)) (fault : Fault) (k : ℕ) (more : ℤ → Option (List ℕ) → Begun)
      → ((v : ℤ) (g : Option (List ℕ)) → P v → TidyBegun (more v g)) → TidyBegun (on_first (first_of form f) (bad fault k) more)
  unfolding first_of
  on_field_lem None fault k more h = tt
  on_field_lem (Some l) fault k more h = go (form (field l)) refl
    where
      go : (x : Option ℤ) → form (field l) ≡ x → TidyBegun (on_first (on_field x nothing (λ v. first v (rest l))) (bad fault k) more)
      go (Some v) e = h v (rest l) (good (field l) v e)
      go None e = tt

on_first_lem : (k : ℕ) (f : First) (more : ℤ → Option (List ℕ) → Begun) → ((v : ℤ) (g : Option (List ℕ)) → TidyBegun (more v g)) → TidyBegun (on_first f (bad Fault.Form k) more)
on_first_lem k nothing more h = tt
on_first_lem k (first v g) more h = h v g

tidy_six : (f : Option (List ℕ)) → TidyBegun (six_of f)
unfolding six_of place_of
tidy_six f =
    on_field_lem whole_of Whole whole_in_range f Fault.Form 0 _ (λ kind f k.
    on_field_lem whole_of Whole whole_in_range f Fault.Form 1 _ (λ event f e.
    on_field_lem time_of InRange time_in_range f Fault.Stamp 2 _ (λ time f t.
    on_first_lem 3 (first_of whole_of f) _ (λ processor f.
    on_first_lem 4 (first_of whole_of f) _ (λ process f.
    on_first_lem 5 (first_of count_of f) _ (λ count f. record { time = t; kind = k; event = e }))))))

pub tidy_head : (l : List ℕ) → TidyBegun (head_of l)
unfolding head_of
tidy_head l = go (fields_above 5 l)
  where
    go : (b : Bool) → TidyBegun (cond b (six_of (Some l)) (bad Fault.Form 5))
    go true = tidy_six (Some l)
    go false = tt
