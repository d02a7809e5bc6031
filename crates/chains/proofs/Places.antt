-- The places of the sends, one by one: the place of an entry's send, and the number of the entries where it has none.
use Rattle.std.specs.Prelude.{Option, Some, None, unwrap_or}
use Prim.Native.Nat.{ℕ, ◌≤◌, ◌<◌}
use native.Mathlib.Omega.{arith}
use mathlib.Core.Path.{◌≡◌, refl}
use mathlib.Core.List.{List}
use lib.ListN.{length, get_or}
use Rattle.paper.specs.Matching.{send_of}
use Rattle.paper.specs.declared.Entry.{Entry}
use Rattle.matching.proofs.Belong.{belongs}
use Rattle.store.proofs.Listed.{length_listed, listed_at}
use Rattle.chains.specs.Places.{places_of}

pub some_place : (n : ℕ) (o : Option ℕ) → unwrap_or o n < n → o ≡ Some (unwrap_or o n)
some_place n None h = absurd (omega arith)
some_place n (Some j) h = refl

no_place : (n : ℕ) (o : Option ℕ) → ((j : ℕ) → o ≡ Some j → j < n) → n ≤ unwrap_or o n → o ≡ None
no_place n None low h = refl
no_place n (Some j) low h = absurd (omega (arith, low j refl))

module _ (es : List Entry) where
  pub length_places : length (places_of es) ≡ length es
  unfolding places_of
  length_places = length_listed (length es) (λ i. unwrap_or (send_of es i) (length es))

  module _ (i : ℕ) (m : i < length es) where
    place_at : get_or (places_of es) i 0 ≡ unwrap_or (send_of es i) (length es)
    unfolding places_of
    place_at = listed_at (length es) (λ i. unwrap_or (send_of es i) (length es)) i 0 m

    pub has_send : get_or (places_of es) i 0 < length es → send_of es i ≡ Some (get_or (places_of es) i 0)
    has_send h = rw place_at (some_place (length es) (send_of es i) (rw place_at at h))

    pub has_none : length es ≤ get_or (places_of es) i 0 → send_of es i ≡ None
    has_none h = no_place (length es) (send_of es i) (λ j e. (belongs es i j e).within) (rw place_at at h)
