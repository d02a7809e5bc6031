-- One record's part of the tables, by the tests that the code makes.
use Prim.Native.Nat.{ℕ, ◌≤◌, ◌<◌}
use mathlib.Core.Path.{◌≡◌}
use mathlib.Core.Bool.{Bool, true, false}
use mathlib.Core.List.{List}
use mir.Syntax.{w64}
use mir.Val.{SFits, of_z}
use borrow.Author.Tests.{lt-ltb, le-ltb, eq-eqb, ne_eqb}
use lib.ListN.{length}
use lib.IntN.{ℤ, pos, ◌+ℤ◌}
use Rattle.paper.specs.Clock.{time_at}
use Rattle.paper.specs.Tests.{eq_z}
use Rattle.signed.proofs.Equal.{bits_same}
use Rattle.steps.specs.Tables.{exact_at, end_rank}

module _ (times : List ℤ) (wait none i j : ℕ) where
  pub exact_out : length times ≤ j → none ≡ exact_at times wait none i j
  unfolding exact_at
  exact_out l = rw (le-ltb j (length times) l)

  module _ (l : j < length times) {a b : ℤ} (time : a ≡ time_at times i) (earlier : b ≡ time_at times j)
      {told : Bool} (e : told ≡ eq_z a (b +ℤ pos wait)) where
    pub exact_kept : told ≡ true → j ≡ exact_at times wait none i j
    unfolding exact_at
    exact_kept t = rw (lt-ltb j (length times) l, ← time, ← earlier, ← e, t)

    pub exact_lost : told ≡ false → none ≡ exact_at times wait none i j
    unfolding exact_at
    exact_lost t = rw (lt-ltb j (length times) l, ← time, ← earlier, ← e, t)

module _ (time original : ℤ) (none : ℕ) (fits-time : SFits w64 time) (fits-original : SFits w64 original) where
  pub end_here : of_z w64 time ≡ of_z w64 original → 0 ≡ end_rank time original none
  unfolding end_rank
  end_here e = rw (← bits_same fits-time fits-original, eq-eqb _ _ e)

  pub end_later : ¬ (of_z w64 time ≡ of_z w64 original) → none ≡ end_rank time original none
  unfolding end_rank
  end_later n = rw (← bits_same fits-time fits-original, ne_eqb _ _ n)
