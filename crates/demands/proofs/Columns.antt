-- Where the fields of a line begin: a column is in the line or one past its end, a field that is there begins at its own, and one that is
-- missing has the one past the end.
use Prim.Native.Nat.{ℕ, zero, suc, ◌+◌, ◌-◌, ◌≤◌, ◌<◌}
use native.Mathlib.Nat.{le_of_lt}
use native.Mathlib.Omega.{arith}
use mathlib.Core.Path.{◌≡◌, refl, ap, ◌∙◌}
use mathlib.Core.Bool.{Bool, true, false, ◌&&◌}
use mathlib.Core.List.{List, ◌∷◌, ◌++◌}
use lib.ListN.{length, drop, length-append}
use lib.Seq.{length-take-le, drop-append-add}
use borrow.Author.Tests.{ltb-true}
use Rattle.paper.specs.Line.{field, after, goes_on, fields_above}
use Rattle.paper.specs.Columns.{past_end, column_of}
use Rattle.forms.proofs.Tests.{never}
use Rattle.reading.proofs.Fields.{field_joined}
use Rattle.reading.proofs.Stamp.{above}

-- ---- a field further on

module _ (k : ℕ) (l : List ℕ) where
  column_next : goes_on l ≡ true → column_of (suc k) l ≡ suc (length (field l)) + column_of k (after l)
  unfolding column_of field goes_on
  column_next g = rw (g, length-take-le _ l (le_of_lt (ltb-true _ _ g)))

  column_none : goes_on l ≡ false → column_of (suc k) l ≡ past_end l
  unfolding column_of
  column_none g = rw g

-- the first field, its space, and what follows
line_length : (l : List ℕ) → goes_on l ≡ true → length l ≡ suc (length (field l)) + length (after l)
line_length l g = ap length (field_joined l g) ∙ length-append (field l) (32 ∷ after l) ∙ omega arith

-- ---- a column

-- "counted from 1"
pub column_from_1 : (k : ℕ) (l : List ℕ) → 0 < column_of k l
unfolding column_of
column_from_1 zero l = omega arith
column_from_1 (suc k) l = go (goes_on l) refl
  where
    go : (t : Bool) → goes_on l ≡ t → 0 < column_of (suc k) l
    go true g = rw (column_next k l g) (omega arith)
    go false g = rw (column_none k l g) (omega arith)

pub column_within : (k : ℕ) (l : List ℕ) → column_of k l ≤ past_end l
unfolding column_of
column_within zero l = omega arith
column_within (suc k) l = go (column_within k (after l)) (goes_on l) refl
  where
    go : column_of k (after l) ≤ past_end (after l) → (t : Bool) → goes_on l ≡ t → column_of (suc k) l ≤ past_end l
    go later true g = omega (arith, later, column_next k l g, line_length l g)
    go later false g = omega (arith, column_none k l g)

-- "Where a field .. is missing, the column is one past the line's last byte"
pub column_missing : (k : ℕ) (l : List ℕ) → fields_above k l ≡ false → column_of k l ≡ past_end l
unfolding fields_above
column_missing zero l e = never (cc)
column_missing (suc k) l e = go (column_missing k (after l)) (goes_on l) refl e
  where
    go : (fields_above k (after l) ≡ false → column_of k (after l) ≡ past_end (after l)) → (t : Bool) → goes_on l ≡ t
        → (t && fields_above k (after l)) ≡ false → column_of (suc k) l ≡ past_end l
    go later true g e = omega (arith, later e, column_next k l g, line_length l g)
    go later false g e = column_none k l g

-- ---- the field there

-- what follows k fields
abbrev pub from : ℕ → List ℕ → List ℕ
from zero l = l
from (suc k) l = from k (after l)

past_field : (f more : List ℕ) (column : ℕ) → 0 < column → drop (suc (length f) + column - 1) (f ++ (32 ∷ more)) ≡ drop (column - 1) more
past_field f more column h =
    let z : suc (length f) + column - 1 ≡ length f + suc (column - 1) = omega arith in
    rw z (drop-append-add f (32 ∷ more) (suc (column - 1)))

-- a field that is there begins at its column
pub column_begins : (k : ℕ) (l : List ℕ) → fields_above k l ≡ true → drop (column_of k l - 1) l ≡ from k l
unfolding column_of
column_begins zero l e = refl
column_begins (suc k) l e =
    let (g, behind) = above k l e in
    ap (λ n. drop (n - 1) l) (column_next k l g)
    ∙ ap (drop (suc (length (field l)) + column_of k (after l) - 1)) (field_joined l g)
    ∙ past_field (field l) (after l) (column_of k (after l)) (column_from_1 k (after l))
    ∙ column_begins k (after l) behind
