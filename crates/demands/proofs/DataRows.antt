-- Row 5 for the data of a listed line: the field that they are bad in is the leftmost that the row finds.
use Rattle.std.specs.Prelude.{Option, Some, None, Err}
use Prim.Native.Nat.{ℕ, zero, suc, ◌+◌, ◌≤◌, ◌<◌}
use native.Mathlib.Omega.{arith}
use mathlib.Core.Path.{◌≡◌, refl, sym, ap, ◌∙◌}
use mathlib.Core.Logic.{inl, inr}
use mathlib.Core.Bool.{Bool, true, false, cond}
use mathlib.Core.List.{List}
use lib.ListN.{replicate}
use lib.IntN.{ℤ, pos}
use lib.Dec.{leb}
use borrow.Author.Tests.{leb-true, leb-false}
use Rattle.paper.specs.Tests.{eq_z}
use Rattle.paper.specs.Forms.{whole_of, time_of}
use Rattle.paper.specs.Line.{field, rest, on_field, first_of, Numbers, wrong, numbers, pushed, values_of, as_wholes, as_others, described, data_of}
use Rattle.forms.proofs.Tests.{never}
use Rattle.reading.proofs.Stamp.{took}
use Rattle.reading.proofs.Data.{WholesTold, wholes_told, data_few, data_many}
use Rattle.demands.specs.Rows.{FirstWrong, too_many_lem, missing, bad_datum, good_datum, BadData, above_limit, not_stated, no_descriptor, bad_descriptor, bad_wholes, bad_times}
use Rattle.demands.proofs.Tests.{Tells, not_told, untold, same_tells}

-- ---- some fields in a form

module _ (form : List ℕ → Option ℤ) where
  -- of n fields from field j on, field m is the first wrong one
  abbrev WrongAt : ℕ → ℕ → Option (List ℕ) → ℕ → Type 0
  WrongAt j n fields m = (k : ℕ) × FirstWrong (replicate n form) fields k × (j + k ≡ m)

  module _ (j n m : ℕ) (l : List ℕ) where
    one_further : (v : ℤ) → form (field l) ≡ Some v → WrongAt (suc j) n (rest l) m → WrongAt j (suc n) (Some l) m
    one_further v p (k, f, e) = (suc k, good_datum v p f, omega arith)

    pushed_wrong : (v : ℤ) → form (field l) ≡ Some v → (x : Numbers) → (x ≡ wrong m → WrongAt (suc j) n (rest l) m) → pushed v x ≡ wrong m
        → WrongAt j (suc n) (Some l) m
    pushed_wrong v p (wrong i) later e = one_further v p (later e)
    pushed_wrong v p (numbers vs) later e = never (cc)

    datum_wrong : (x : Option ℤ) → form (field l) ≡ x → (values_of form (suc j) n (rest l) ≡ wrong m → WrongAt (suc j) n (rest l) m)
        → on_field x (wrong j) (λ v. pushed v (values_of form (suc j) n (rest l))) ≡ wrong m → WrongAt j (suc n) (Some l) m
    datum_wrong None p later e = let z : j ≡ m = cc in (0, bad_datum p, omega arith)
    datum_wrong (Some v) p later e = pushed_wrong v p _ later e

  values_wrong : (j n : ℕ) (fields : Option (List ℕ)) (m : ℕ) → values_of form j n fields ≡ wrong m → WrongAt j n fields m
  unfolding values_of first_of
  values_wrong j zero None m e = never (cc)
  values_wrong j zero (Some l) m e = let z : j ≡ m = cc in (0, too_many_lem, omega arith)
  values_wrong j (suc n) None m e = let z : j ≡ m = cc in (0, missing, omega arith)
  values_wrong j (suc n) (Some l) m e = datum_wrong j n m l _ refl (values_wrong (suc j) n (rest l) m) (sym (took form l _ _) ∙ e)

  wrong_values : (j n : ℕ) {k : ℕ} {fields : Option (List ℕ)} → FirstWrong (replicate n form) fields k → values_of form j n fields ≡ wrong (j + k)
  unfolding values_of first_of
  wrong_values j zero too_many_lem = ap wrong (omega arith)
  wrong_values j (suc n) missing = ap wrong (omega arith)
  wrong_values j (suc n) (bad_datum p) = rw p (ap wrong (omega arith))
  wrong_values j (suc n) (good_datum v p f) = rw (p, wrong_values (suc j) n f) (ap wrong (omega arith))

-- ---- what the numbers come to

wholes_bad : (x : Numbers) (k : ℕ) → as_wholes x ≡ Err k → x ≡ wrong k
unfolding as_wholes
wholes_bad (wrong i) k e = cc
wholes_bad (numbers vs) k e = go (wholes_told vs)
  where
    go : WholesTold vs → numbers vs ≡ wrong k
    go (inl (n, a, b, c, q)) = never (cc)
    go (inr (n, q)) = never (cc)

others_bad : (x : Numbers) (k : ℕ) → as_others x ≡ Err k → x ≡ wrong k
unfolding as_others
others_bad (wrong i) k e = cc
others_bad (numbers vs) k e = never (cc)

-- ---- the descriptor

-- what a field reads as, and whether that is the descriptor
pub read_tells : (l : List ℕ) (v d : ℤ) → whole_of (field l) ≡ Some v → Tells (eq_z v d) (whole_of (field l) ≡ Some d)
read_tells l v d p =
    record { holds = λ e. p ∙ ap Some ((same_tells v d).holds e); told = λ q. let same : v ≡ d = cc in (same_tells v d).told same }

module _ (n : ℕ) (some_data : 0 < n) (few : n ≤ 16) (l : List ℕ) (k : ℕ) where
  wholes_row : whole_of (field l) ≡ Some (pos 2) → WrongAt whole_of 7 n (rest l) k → BadData n (Some l) k
  wholes_row p (i, f, e) = rw (← e) (bad_wholes some_data few p f)

  times_row : whole_of (field l) ≡ Some (pos 5) → WrongAt time_of 7 n (rest l) k → BadData n (Some l) k
  times_row p (i, f, e) = rw (← e) (bad_times some_data few p f)

  described_row : (v : ℤ) → whole_of (field l) ≡ Some v → described n v (rest l) ≡ Err k → BadData n (Some l) k
  unfolding described
  described_row v p e = go (eq_z v (pos 2)) refl (eq_z v (pos 5)) refl e
    where
      go : (t : Bool) → eq_z v (pos 2) ≡ t → (u : Bool) → eq_z v (pos 5) ≡ u
          → cond t (as_wholes (values_of whole_of 7 n (rest l))) (cond u (as_others (values_of time_of 7 n (rest l))) (Err 6)) ≡ Err k
          → BadData n (Some l) k
      go true t u q e = wholes_row ((read_tells l v (pos 2) p).holds t) (values_wrong whole_of 7 n (rest l) k (wholes_bad _ k e))
      go false t true q e = times_row ((read_tells l v (pos 5) p).holds q) (values_wrong time_of 7 n (rest l) k (others_bad _ k e))
      go false t false q e =
          let z : 6 ≡ k = cc in
          rw (← z) (bad_descriptor some_data few (untold (read_tells l v (pos 2) p) t) (untold (read_tells l v (pos 5) p) q))

  descriptor_row : (x : Option ℤ) → whole_of (field l) ≡ x → on_field x (Err 6) (λ v. described n v (rest l)) ≡ Err k
      → BadData n (Some l) k
  descriptor_row None p e = let z : 6 ≡ k = cc in rw (← z) (bad_descriptor {l = l} some_data few (λ q. never (cc)) (λ q. never (cc)))
  descriptor_row (Some v) p e = described_row v p e

-- ---- the data

module _ (n : ℕ) (some_data : 0 < n) (few : n ≤ 16) where
  pub data_none : data_of n None ≡ Err 6
  unfolding first_of
  data_none = data_few n some_data few None

  pub data_some : (l : List ℕ) → data_of n (Some l) ≡ on_field (whole_of (field l)) (Err 6) (λ v. described n v (rest l))
  data_some l = data_few n some_data few (Some l) ∙ took whole_of l _ _

  data_row_few : (fields : Option (List ℕ)) (k : ℕ) → data_of n fields ≡ Err k → BadData n fields k
  data_row_few None k e = let z : 6 ≡ k = let q = data_none in cc in rw (← z) (no_descriptor some_data few)
  data_row_few (Some l) k e = descriptor_row n some_data few l k _ refl (sym (data_some l) ∙ e)

pub data_row : (n : ℕ) (fields : Option (List ℕ)) (k : ℕ) → data_of n fields ≡ Err k → BadData n fields k
unfolding data_of values_of as_others
data_row zero None k e = never (cc)
data_row zero (Some l) k e = let z : 6 ≡ k = cc in rw (← z) not_stated
data_row (suc n) fields k e = go (leb (suc n) 16) refl
  where
    go : (t : Bool) → leb (suc n) 16 ≡ t → BadData (suc n) fields k
    go true t = data_row_few (suc n) (omega arith) (leb-true _ _ t) fields k e
    go false t =
        let high = leb-false (suc n) 16 t in
        let z : 5 ≡ k = let q = data_many (suc n) fields high in cc in
        rw (← z) (above_limit high)

-- ---- and back

neither_described : (n : ℕ) (l : List ℕ) → ¬ (whole_of (field l) ≡ Some (pos 2)) → ¬ (whole_of (field l) ≡ Some (pos 5)) → (x : Option ℤ)
    → whole_of (field l) ≡ x → on_field x (Err 6) (λ v. described n v (rest l)) ≡ Err 6
unfolding described
neither_described n l two five None p = refl
neither_described n l two five (Some v) p = rw (not_told (read_tells l v (pos 2) p) two, not_told (read_tells l v (pos 5) p) five)

pub row_data : {n k : ℕ} {fields : Option (List ℕ)} → BadData n fields k → data_of n fields ≡ Err k
unfolding data_of values_of as_others as_wholes described
row_data {n} {k} {fields} (above_limit h) = data_many n fields h
row_data not_stated = refl
row_data {n} (no_descriptor some_data few) = data_none n some_data few
row_data {n} (bad_descriptor {l = l} some_data few two five) = data_some n some_data few l ∙ neither_described n l two five _ refl
row_data {n} (bad_wholes {l = l} some_data few p f) = data_some n some_data few l ∙ rw (p, wrong_values whole_of 7 n f)
row_data {n} (bad_times {l = l} some_data few p f) = data_some n some_data few l ∙ rw (p, wrong_values time_of 7 n f)
