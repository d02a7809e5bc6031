-- A table of steps turned round, step by step.
use Prim.Native.Nat.{ℕ, ◌+◌, ◌≤◌, ◌<◌}
use native.Mathlib.Omega.{arith}
use mathlib.Core.Path.{◌≡◌, ◌∙◌}
use mathlib.Core.List.{List}
use lib.ListN.{length, set, length-set}
use lib.Seq.{get_or-set_same, get_or-set_other}
use borrow.Author.Count.{below_none, below_more}
use Rattle.ranks.specs.Ranked.{at, OneEach}
use Rattle.ranks.specs.Inner.{Inverts}

-- the first i steps are turned round
pub record Inverting (table into : List ℕ) (i : ℕ) : Type 0 where
  pub size : length into ≡ length table
  pub upto : i ≤ length table
  pub back : OneEach table → (k : ℕ) → k < i → at table k < length table → at into (at table k) ≡ k

pub invert_none : (table into : List ℕ) → length into ≡ length table → Inverting table into 0
invert_none table into size = record { size = size; upto = omega arith; back = λ one. below_none _ }

module _ (table : List ℕ) {into : List ℕ} {i : ℕ} (s : Inverting table into i) where
  pub invert_more : i < length table → {to : ℕ} → to ≡ at table i → {into' : List ℕ} → into' ≡ set into to i → Inverting table into' (i + 1)
  invert_more i< {to} is {into'} e =
      rw e
      (record {
        size = length-set into to i ∙ s.size;
        upto = omega arith;
        back =
            λ one. below_more (λ k. at table k < length table → at (set into to i) (at table k) ≡ k) i
            (λ k k< l. get_or-set_other into to (at table k) i 0
            (λ q. let same = one k i (omega arith) i< (q ∙ is) l in omega arith)
            ∙ s.back one k k< l)
            (λ l. rw (← is) (get_or-set_same into to i 0 (omega (arith, s.size, is, l))));
      })

  pub inverted : length table ≤ i → Inverts table into
  inverted all = record { back = λ one k k< l. s.back one k (omega arith) l }
