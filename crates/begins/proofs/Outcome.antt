-- The statement of `begin_of`: what each answer says, and that there is one only.
use Rattle.std.specs.Prelude.{Option, Some, None}
use Prim.Native.Nat.{ℕ, ◌+◌, ◌≤◌}
use native.Mathlib.Omega.{arith}
use native.Mathlib.Numerals.{add-one}
use mathlib.Core.Path.{◌≡◌, refl, sym, ap, ◌∙◌}
use mathlib.Core.List.{List}
use lib.ListN.{length}
use Rattle.std.specs.Option.{unwrap_or}
use Rattle.paper.specs.Columns.{column_of}
use Rattle.begins.specs.Begins.{There, NotThere, Begins}

module _ {l : List ℕ} {k : ℕ} {r : Option ℕ} (b : Begins l k r) where
  pub there : (at : ℕ) → r ≡ Some at → There l k at
  unfolding Begins
  there at e = rw e at b

  pub not_there : r ≡ None → NotThere l k
  unfolding Begins
  not_there e = rw e at b

-- the column, whether the field is there or not
module _ (l : List ℕ) (k : ℕ) where
  pub begins_inside : (r : Option ℕ) → Begins l k r → unwrap_or r (length l) ≤ length l
  unfolding Begins
  begins_inside (Some at) b = b.inside
  begins_inside None b = omega arith

  pub begins_column : (r : Option ℕ) → Begins l k r → unwrap_or r (length l) + 1 ≡ column_of k l
  unfolding Begins
  begins_column (Some at) b = sym b.column
  begins_column None b = add-one _ ∙ sym b.column

pub one_begin : (l : List ℕ) (k : ℕ) (r q : Option ℕ) → Begins l k r → Begins l k q → r ≡ q
unfolding Begins
one_begin l k (Some a) (Some b) e f = ap Some (omega (arith, e.column, f.column))
one_begin l k (Some a) None e f = let x = e.is in let y = f.is in cc
one_begin l k None (Some b) e f = let x = e.is in let y = f.is in cc
one_begin l k None None e f = refl
