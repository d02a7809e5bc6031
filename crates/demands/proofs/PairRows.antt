-- Row 5 for the pairs of a statistics line: the field that they are bad in is the leftmost that the row finds.
use Rattle.std.specs.Prelude.{Option, Some, None, Err}
use Prim.Native.Nat.{ℕ, zero, suc, ◌+◌, ◌≤◌, ◌<◌}
use native.Mathlib.Omega.{arith}
use mathlib.Core.Path.{◌≡◌, refl, sym, ap, ◌∙◌}
use mathlib.Core.Bool.{Bool, true, false, cond}
use mathlib.Core.List.{List, ◌∷◌}
use lib.IntN.{ℤ, pos}
use lib.Dec.{leb}
use borrow.Author.Tests.{leb-true, leb-false, le-leb, lt-leb}
use Rattle.paper.specs.Tests.{eq_z, minus}
use Rattle.paper.specs.Text.{bytes_of, is_same}
use Rattle.paper.specs.Forms.{whole_of, text_of, times_quoted, numbers_quoted}
use Rattle.paper.specs.Line.{field, rest, on_field, on_first, first_of, Pairs, unpaired, pairs, paired, pairs_of, quoted_for, told_for, pairs_for, as_pairs}
use Rattle.forms.proofs.Tests.{never}
use Rattle.reading.proofs.Stamp.{took}
use Rattle.demands.specs.Rows.{FirstWrong, too_many_lem, missing, bad_datum, good_datum, text_for, pair_forms, BadPairs, pairs_above_limit, pairs_not_stated, no_text, other_text, bad_pair}
use Rattle.demands.proofs.Tests.{not_told, untold, text_tells}

-- ---- some pairs

module _ (told : List ℕ → Option ℤ) where
  -- of n pairs from field j on, field m is the first wrong one
  abbrev UnpairedAt : ℕ → ℕ → Option (List ℕ) → ℕ → Type 0
  UnpairedAt j n fields m = (k : ℕ) × FirstWrong (pair_forms told n) fields k × (j + k ≡ m)

  -- one pair, with those behind it
  module _ (j n m : ℕ) (l : List ℕ) (later : (f : Option (List ℕ)) → pairs_of told (suc (suc j)) n f ≡ unpaired m → UnpairedAt (suc (suc j)) n f m) where
    behind_event : (event : ℤ) → whole_of (field l) ≡ Some event → (f : Option (List ℕ)) → rest l ≡ f → {k : ℕ}
        → FirstWrong (told ∷ pair_forms told n) f k → FirstWrong (pair_forms told (suc n)) (Some l) (suc k)
    behind_event event p f r {k} wrong = let there : FirstWrong (told ∷ pair_forms told n) (rest l) k = rw r wrong in good_datum event p there

    one_further : (event v : ℤ) (s : List ℕ) → whole_of (field l) ≡ Some event → rest l ≡ Some s → told (field s) ≡ Some v → (x : Pairs)
        → pairs_of told (suc (suc j)) n (rest s) ≡ x → paired event v x ≡ unpaired m → UnpairedAt j (suc n) (Some l) m
    one_further event v s p r q (unpaired i) x e =
        let (k, f, place) = later (rest s) (x ∙ e) in
        (suc (suc k), behind_event event p (Some s) r (good_datum v q f), omega arith)
    one_further event v s p r q (pairs ps) x e = never (cc)

    told_wrong : (event : ℤ) → whole_of (field l) ≡ Some event → (f : Option (List ℕ)) → rest l ≡ f
        → on_first (first_of told f) (unpaired (suc j)) (λ v g. paired event v (pairs_of told (suc (suc j)) n g)) ≡ unpaired m
        → UnpairedAt j (suc n) (Some l) m
    unfolding first_of
    told_wrong event p None r e = let z : suc j ≡ m = cc in (1, behind_event event p None r missing, omega arith)
    told_wrong event p (Some s) r e = go (told (field s)) refl (sym (took told s _ _) ∙ e)
      where
        go : (x : Option ℤ) → told (field s) ≡ x
            → on_field x (unpaired (suc j)) (λ v. paired event v (pairs_of told (suc (suc j)) n (rest s))) ≡ unpaired m
            → UnpairedAt j (suc n) (Some l) m
        go None q e = let z : suc j ≡ m = cc in (1, behind_event event p (Some s) r (bad_datum q), omega arith)
        go (Some v) q e = one_further event v s p r q _ refl e

    pair_wrong : (x : Option ℤ) → whole_of (field l) ≡ x
        → on_field x (unpaired j) (λ event. on_first (first_of told (rest l)) (unpaired (suc j)) (λ v g. paired event v (pairs_of told (suc (suc j)) n g)))
        ≡ unpaired m
        → UnpairedAt j (suc n) (Some l) m
    pair_wrong None p e = let z : j ≡ m = cc in (0, bad_datum p, omega arith)
    pair_wrong (Some event) p e = told_wrong event p _ refl e

  pairs_wrong : (j n : ℕ) (fields : Option (List ℕ)) (m : ℕ) → pairs_of told j n fields ≡ unpaired m → UnpairedAt j n fields m
  unfolding pairs_of first_of
  pairs_wrong j zero None m e = never (cc)
  pairs_wrong j zero (Some l) m e = let z : j ≡ m = cc in (0, too_many_lem, omega arith)
  pairs_wrong j (suc n) None m e = let z : j ≡ m = cc in (0, missing, omega arith)
  pairs_wrong j (suc n) (Some l) m e = pair_wrong j n m l (λ f. pairs_wrong (suc (suc j)) n f m) _ refl (sym (took whole_of l _ _) ∙ e)

  -- ---- and back

  wrong_told : (j n : ℕ) (event : ℤ)
      → ((k : ℕ) (f : Option (List ℕ)) → FirstWrong (pair_forms told n) f k → pairs_of told (suc (suc j)) n f ≡ unpaired (suc (suc j) + k))
      → (k : ℕ) (f : Option (List ℕ)) → FirstWrong (told ∷ pair_forms told n) f k
      → on_first (first_of told f) (unpaired (suc j)) (λ v g. paired event v (pairs_of told (suc (suc j)) n g)) ≡ unpaired (suc j + k)
  unfolding first_of
  wrong_told j n event later k f missing = ap unpaired (omega arith)
  wrong_told j n event later k f (bad_datum p) = rw p (ap unpaired (omega arith))
  wrong_told j n event later k f (good_datum v p g) = rw (p, later _ _ g) (ap unpaired (omega arith))

  wrong_pairs : (j n : ℕ) {k : ℕ} {fields : Option (List ℕ)} → FirstWrong (pair_forms told n) fields k → pairs_of told j n fields ≡ unpaired (j + k)
  unfolding pairs_of first_of
  wrong_pairs j zero too_many_lem = ap unpaired (omega arith)
  wrong_pairs j (suc n) missing = ap unpaired (omega arith)
  wrong_pairs j (suc n) (bad_datum p) = rw p (ap unpaired (omega arith))
  wrong_pairs j (suc n) (good_datum {l = l} v p f) = rw p (wrong_told j n v (λ i g. wrong_pairs (suc (suc j)) n {k = i} {fields = g}) _ (rest l) f ∙ ap unpaired (omega arith))

-- ---- the descriptor

quoted_is : (kind : ℤ) (s : List ℕ) → quoted_for kind s ≡ cond (is_same s (text_for kind)) (Some (pos 0)) None
unfolding quoted_for times_quoted numbers_quoted text_of bytes_of
quoted_is kind s = go (eq_z kind (minus 101))
  where
    go : (t : Bool) → cond t times_quoted numbers_quoted s
        ≡ cond (is_same s (cond t (bytes_of "\"%d%lf\"") (bytes_of "\"%d%d\""))) (Some (pos 0)) None
    go true = refl
    go false = refl

module _ (kind : ℤ) (n : ℕ) (some_pairs : 0 < n) (few : n ≤ 16) where
  pairs_few : (fields : Option (List ℕ)) → pairs_for kind n fields
      ≡ on_first (first_of (quoted_for kind) fields) (unpaired 6) (λ descriptor f. pairs_of (told_for kind) 7 n f)
  unfolding pairs_for
  pairs_few fields = go n some_pairs few
    where
      go : (m : ℕ) → 0 < m → m ≤ 16 → pairs_for kind m fields
          ≡ on_first (first_of (quoted_for kind) fields) (unpaired 6) (λ descriptor f. pairs_of (told_for kind) 7 m f)
      go zero some_pairs few = absurd (omega arith)
      go (suc m) some_pairs few = rw (le-leb (suc m) 16 few)

  pairs_some : (l : List ℕ) → pairs_for kind n (Some l)
      ≡ on_field (cond (is_same (field l) (text_for kind)) (Some (pos 0)) None) (unpaired 6) (λ descriptor. pairs_of (told_for kind) 7 n (rest l))
  pairs_some l = pairs_few (Some l) ∙ took (quoted_for kind) l _ _ ∙ rw (quoted_is kind (field l))

  pairs_row_few : (fields : Option (List ℕ)) (k : ℕ) → pairs_for kind n fields ≡ unpaired k → BadPairs kind n fields k
  unfolding first_of
  pairs_row_few None k e = let z : 6 ≡ k = let q = pairs_few None in cc in rw (← z) (no_text some_pairs few)
  pairs_row_few (Some l) k e = go (is_same (field l) (text_for kind)) refl (sym (pairs_some l) ∙ e)
    where
      go : (t : Bool) → is_same (field l) (text_for kind) ≡ t
          → on_field (cond t (Some (pos 0)) None) (unpaired 6) (λ descriptor. pairs_of (told_for kind) 7 n (rest l)) ≡ unpaired k
          → BadPairs kind n (Some l) k
      go true t e =
          let (j, f, place) = pairs_wrong (told_for kind) 7 n (rest l) k e in
          rw (← place) (bad_pair some_pairs few ((text_tells _ _).holds t) f)
      go false t e = let z : 6 ≡ k = cc in rw (← z) (other_text some_pairs few (untold (text_tells _ _) t))

pairs_many : (kind : ℤ) (n : ℕ) (fields : Option (List ℕ)) → 16 < n → pairs_for kind n fields ≡ unpaired 5
unfolding pairs_for
pairs_many kind zero fields h = absurd (omega arith)
pairs_many kind (suc n) fields h = rw (lt-leb (suc n) 16 h)

-- ---- the pairs

pairs_bad : (x : Pairs) (k : ℕ) → as_pairs x ≡ Err k → x ≡ unpaired k
unfolding as_pairs
pairs_bad (unpaired i) k e = cc
pairs_bad (pairs ps) k e = never (cc)

unpaired_row : (kind : ℤ) (n : ℕ) (fields : Option (List ℕ)) (k : ℕ) → pairs_for kind n fields ≡ unpaired k → BadPairs kind n fields k
unfolding pairs_for pairs_of
unpaired_row kind zero None k e = never (cc)
unpaired_row kind zero (Some l) k e = let z : 6 ≡ k = cc in rw (← z) pairs_not_stated
unpaired_row kind (suc n) fields k e = go (leb (suc n) 16) refl
  where
    go : (t : Bool) → leb (suc n) 16 ≡ t → BadPairs kind (suc n) fields k
    go true t = pairs_row_few kind (suc n) (omega arith) (leb-true _ _ t) fields k e
    go false t =
        let high = leb-false (suc n) 16 t in
        let z : 5 ≡ k = let q = pairs_many kind (suc n) fields high in cc in
        rw (← z) (pairs_above_limit high)

row_unpaired : (kind : ℤ) {n k : ℕ} {fields : Option (List ℕ)} → BadPairs kind n fields k → pairs_for kind n fields ≡ unpaired k
unfolding pairs_for pairs_of first_of
row_unpaired kind {n} {k} {fields} (pairs_above_limit h) = pairs_many kind n fields h
row_unpaired kind pairs_not_stated = refl
row_unpaired kind {n} (no_text some_pairs few) = pairs_few kind n some_pairs few None
row_unpaired kind {n} (other_text {l = l} some_pairs few other) = pairs_some kind n some_pairs few l ∙ rw (not_told (text_tells _ _) other)
row_unpaired kind {n} (bad_pair {l = l} some_pairs few text f) =
    pairs_some kind n some_pairs few l ∙ rw ((text_tells _ _).told text) (wrong_pairs (told_for kind) 7 n f)

pub pairs_row : (kind : ℤ) (n : ℕ) (fields : Option (List ℕ)) (k : ℕ) → as_pairs (pairs_for kind n fields) ≡ Err k → BadPairs kind n fields k
pairs_row kind n fields k e = unpaired_row kind n fields k (pairs_bad _ k e)

pub row_pairs : (kind : ℤ) {n k : ℕ} {fields : Option (List ℕ)} → BadPairs kind n fields k → as_pairs (pairs_for kind n fields) ≡ Err k
unfolding as_pairs
row_pairs kind b = rw (row_unpaired kind b)
