-- Each of the three promises says all that its function leaves: the lent slice is one table. And which it is of the records before,
-- by the number of the places.
use Prim.Native.Nat.{ℕ, ◌≤◌, ◌<◌}
use mathlib.Core.Path.{◌≡◌, sym, ◌∙◌}
use mathlib.Core.List.{List}
use borrow.Author.Tests.{lt-ltb, le-ltb}
use lib.ListN.{length}
use Rattle.store.specs.Layout.{too_many, entries_in}
use Rattle.waits.specs.Tables.{befores_of, befores_into}

-- so any two outcomes that a promise allows are the same
pub one_table : {A : Type 0} (promised out out' : List A) → out ≡ promised → out' ≡ promised → out ≡ out'
one_table promised out out' e e' = e ∙ sym e'

module _ (store : List ℕ) (out : List ℕ) where
  pub befores_few : length out < too_many → befores_into store out ≡ befores_of (entries_in store (length out))
  unfolding befores_into
  befores_few h = rw (lt-ltb (length out) too_many h)

  pub befores_kept : too_many ≤ length out → befores_into store out ≡ out
  unfolding befores_into
  befores_kept h = rw (le-ltb (length out) too_many h)
