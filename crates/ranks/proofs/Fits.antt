-- Whether the slices fit, by the tests that the code makes, and what that says of each.
use Prim.Native.Nat.{ℕ, ◌≤◌, ◌<◌}
use mathlib.Core.Path.{◌≡◌}
use mathlib.Core.Bool.{Bool, true, false}
use mathlib.Core.List.{List, [], ◌∷◌}
use borrow.Author.Tests.{lt-ltb, le-ltb, ltb-true}
use lib.Dec.{ltb}
use Rattle.forms.proofs.Tests.{both}
use Rattle.store.specs.Layout.{too_many}
use Rattle.engine.specs.Promise.{all_are}
use Rattle.engine.proofs.Lengths.{all_equal}
use Rattle.ranks.specs.Ranked.{rankable}

module _ (n : ℕ) (lengths : List ℕ) where
  pub many : too_many ≤ n → false ≡ rankable n lengths
  unfolding rankable
  many l = rw (le-ltb n too_many l)

  pub even : n < too_many → {told : Bool} → told ≡ all_are n lengths → told ≡ rankable n lengths
  unfolding rankable
  even l e = rw (lt-ltb n too_many l) e

pub fitted : (n first second queue after receive : ℕ) → rankable n (first ∷ second ∷ queue ∷ after ∷ receive ∷ []) ≡ true
    → (n < too_many) × (first ≡ n) × (second ≡ n) × (queue ≡ n) × (after ≡ n) × (receive ≡ n)
unfolding rankable
fitted n first second queue after receive e =
    let few = both (ltb n too_many) (all_are n (first ∷ second ∷ queue ∷ after ∷ receive ∷ [])) e in
    let (a, b, c, d, f) = all_equal n first second queue after receive few.1 in
    (ltb-true n too_many few.0, a, b, c, d, f)
