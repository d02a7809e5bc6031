-- The loop over the records that did not move.
use Prim.Native.Nat.{ℕ, ◌+◌, ◌≤◌, ◌<◌}
use mathlib.Core.Path.{◌≡◌}
use mathlib.Core.List.{List, ◌∷◌}
use mathlib.Core.Bool.{cond}
use native.Mathlib.Numerals.{add-one}
use native.Mathlib.Omega.{arith}
use lib.ListN.{length, get_or}
use lib.Seq.{drop-cons}
use lib.Dec.{eqb}
use mir.Syntax.{w64}
use mir.Val.{SFits, of_z}
use borrow.Author.Tests.{eq-eqb, ne_eqb}
use lib.IntN.{ℤ, pos}
use Rattle.signed.proofs.Equal.{bits_same}
use Rattle.store.specs.Layout.{entry_from}
use Rattle.writing.specs.Patched.{moves_from}
use Rattle.writing.specs.Inner.{moves_at, Stops}

pub none_left : {store : List ℕ} {times : List ℤ} {k : ℕ} → k ≤ length times → length times ≤ k → Stops store times k
none_left h g = record { high = h; moved = (λ l. absurd (omega arith)) }

-- the record at k, where its old time and its new one were compared
module _ (store : List ℕ) (times : List ℤ) (k : ℕ) (h : k < length times) {old : ℤ} (was : old ≡ (entry_from store k).body.time)
    (fits-old : SFits w64 old) (fits-new : SFits w64 (get_or times k (pos 0))) where
  here : moves_at store times k
      ≡ cond (eqb (of_z w64 old) (of_z w64 (get_or times k (pos 0)))) (moves_at store times (k + 1)) (record { place = k; time = get_or times k (pos 0) } ∷ moves_at store times (k + 1))
  unfolding moves_from
  here = rw (drop-cons times k (pos 0) h, bits_same fits-old fits-new, was, add-one)

  pub stays : of_z w64 old ≡ of_z w64 (get_or times k (pos 0)) → moves_at store times k ≡ moves_at store times (k + 1)
  stays e = rw (eq-eqb _ _ e) at here

  pub moves : ¬ (of_z w64 old ≡ of_z w64 (get_or times k (pos 0))) → Stops store times k
  moves n = record { high = omega arith; moved = (λ l. rw (ne_eqb _ _ n) at here) }
