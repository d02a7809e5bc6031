-- The number of data fields: a whole number, held to 0 to 999.
use Rattle.std.specs.Prelude.{Option, Some, None}
use Prim.Native.Nat.{ℕ}
use mathlib.Core.Path.{◌≡◌, refl}
use mathlib.Core.List.{List}
use mathlib.Core.Bool.{Bool, true, false, cond}
use lib.IntN.{ℤ, pos, negsuc, nat_abs}
use Rattle.paper.specs.Tests.{up_to}
use Rattle.paper.specs.Forms.{whole_of}
use Rattle.paper.specs.Line.{field, rest, nothing, first, on_field, on_first, first_of, count_of}
use Rattle.signed.specs.Naturals.{natural_of}

count_first : (f : Option (List ℕ)) → first_of count_of f ≡ on_first (first_of whole_of f) nothing (λ v g. cond (up_to 999 v) (first v g) nothing)
unfolding first_of count_of
count_first None = refl
count_first (Some l) = go (whole_of (field l))
  where
    held : (v : ℤ) (b : Bool) → on_field (cond b (Some v) None) nothing (λ u. first u (rest l)) ≡ cond b (first v (rest l)) nothing
    held v true = refl
    held v false = refl

    go : (x : Option ℤ) → on_field (on_field x None (λ v. cond (up_to 999 v) (Some v) None)) nothing (λ u. first u (rest l))
        ≡ on_first (on_field x nothing (λ v. first v (rest l))) nothing (λ v g. cond (up_to 999 v) (first v g) nothing)
    go (Some v) = held v (up_to 999 v)
    go None = refl

pub no_count : (f : Option (List ℕ)) → first_of whole_of f ≡ nothing → nothing ≡ first_of count_of f
no_count f e = rw (count_first f, e)

module _ (f g : Option (List ℕ)) where
  pub count_outside : {u v : ℤ} → u ≡ v → first_of whole_of f ≡ first v g → natural_of 999 u ≡ None → nothing ≡ first_of count_of f
  unfolding natural_of
  count_outside {u} {v} p e h = rw (count_first f, e) (go (up_to 999 v) (rw p at h))
    where
      go : (b : Bool) → cond b (Some (nat_abs v)) None ≡ None → nothing ≡ cond b (first v g) nothing
      go true h = cc
      go false h = refl

  pub count_good : {u v : ℤ} (n : ℕ) → u ≡ v → first_of whole_of f ≡ first v g → natural_of 999 u ≡ Some n → first (pos n) g ≡ first_of count_of f
  unfolding natural_of
  count_good {u} {v} n p e h = rw (count_first f, e) (go v (rw p at h))
    where
      held : (m : ℕ) (b : Bool) → cond b (Some m) None ≡ Some n → first (pos n) g ≡ cond b (first (pos m) g) nothing
      held m true h = let q : m ≡ n = cc in rw q
      held m false h = cc

      go : (v : ℤ) → cond (up_to 999 v) (Some (nat_abs v)) None ≡ Some n → first (pos n) g ≡ cond (up_to 999 v) (first v g) nothing
      go (pos m) h = held m (up_to 999 (pos m)) h
      go (negsuc m) h = cc
