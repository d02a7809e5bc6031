-- Each statement leaves one outcome.
use Prim.Native.Nat.{ℕ}
use mathlib.Core.Path.{◌≡◌, sym, ◌∙◌}
use mathlib.Core.List.{List}
use Rattle.paper.specs.declared.Entry.{Entry}
use Rattle.store.specs.Layout.{entry_from, put_at, On}

-- what the store holds with a record put into it
pub one_put : (store : List ℕ) (i start : ℕ) (entry : Entry) (a b : List ℕ) → a ≡ put_at store i start entry → b ≡ put_at store i start entry → a ≡ b
one_put store i start entry a b e f = e ∙ sym f

-- the record at a place; the readers of its parts answer with parts of it
pub one_entry : (store : List ℕ) (i : ℕ) (r q : Entry) → r ≡ entry_from store i → q ≡ entry_from store i → r ≡ q
one_entry store i r q e f = e ∙ sym f

pub one_processor : (entry : Entry) (r q : ℕ) → On entry r → On entry q → r ≡ q
one_processor entry r q e f = e.is ∙ sym f.is
