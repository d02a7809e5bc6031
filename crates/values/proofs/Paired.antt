-- The pairs of a statistics record.
use Rattle.std.specs.Prelude.{Option, Ok, Err}
use Prim.Native.Nat.{ℕ, zero, suc, ◌+◌, ◌-◌, ◌*◌, ◌≤◌, ◌<◌}
use mathlib.Core.Path.{◌≡◌, refl}
use mathlib.Core.List.{List}
use mathlib.Core.Bool.{Bool, true, false}
use native.Mathlib.Omega.{arith}
use lib.ListN.{length}
use lib.IntN.{ℤ}
use borrow.Author.Tests.{le-leb}
use Rattle.paper.specs.Tests.{eq_z, minus}
use Rattle.paper.specs.Forms.{whole_of, time_of, times_quoted, numbers_quoted}
use Rattle.paper.specs.Line.{nothing, first, first_of, Pairs, unpaired, pairs, paired, pairs_of, quoted_for, told_for, pairs_for, as_pairs}
use Rattle.paper.specs.declared.Data.TheVariants.{Others}
use Rattle.field.specs.Cursor.{rest_at}
use Rattle.field.proofs.Cursors.{past, inside}
use Rattle.values.specs.Few.{Few}

-- ---- the loop over the pairs

same_pairs : (event v : ℤ) (x : Pairs) → as_pairs (paired event v x) ≡ as_pairs x
unfolding as_pairs
same_pairs event v (unpaired k) = refl
same_pairs event v (pairs ps) = refl

-- pairs that are left from field k on
module _ (form : List ℕ → Option ℤ) (k : ℕ) (f : Option (List ℕ)) where
  no_event : (left : ℕ) → 0 < left → first_of whole_of f ≡ nothing → Err k ≡ as_pairs (pairs_of form k left f)
  unfolding pairs_of as_pairs
  no_event zero h e = absurd (omega arith)
  no_event (suc left) h e = rw e

  module _ (event : ℤ) (g : Option (List ℕ)) (first_is : first_of whole_of f ≡ first event g) where
    no_value : (left : ℕ) → 0 < left → first_of form g ≡ nothing → Err (suc k) ≡ as_pairs (pairs_of form k left f)
    unfolding pairs_of as_pairs
    no_value zero h e = absurd (omega arith)
    no_value (suc left) h e = rw (first_is, e)

    pub pair_on : (left : ℕ) → 0 < left → (v : ℤ) (next : Option (List ℕ)) → first_of form g ≡ first v next
        → as_pairs (pairs_of form k left f) ≡ as_pairs (pairs_of form (suc (suc k)) (left - 1) next)
    unfolding pairs_of
    pair_on zero h v next e = absurd (omega arith)
    pair_on (suc left) h v next e =
        let one : suc left - 1 ≡ left = omega arith in
        rw (one, first_is, e) (same_pairs event v (pairs_of form (suc (suc k)) left next))

-- i of n pairs are read
module _ (form : List ℕ → Option ℤ) (i n : ℕ) where
  module _ (f : Option (List ℕ)) (h : i < n) where
    pub event_stop : first_of whole_of f ≡ nothing → Err (7 + 2 * i) ≡ as_pairs (pairs_of form (7 + 2 * i) (n - i) f)
    event_stop e = no_event form (7 + 2 * i) f (n - i) (omega arith) e

    module _ (event : ℤ) (g : Option (List ℕ)) (first_is : first_of whole_of f ≡ first event g) where
      pub value_stop : first_of form g ≡ nothing → Err (8 + 2 * i) ≡ as_pairs (pairs_of form (7 + 2 * i) (n - i) f)
      value_stop e =
          let field : 8 + 2 * i ≡ suc (7 + 2 * i) = omega arith in
          rw field (no_value form (7 + 2 * i) f event g first_is (n - i) (omega arith) e)

      pub pairs_go : (v : ℤ) (next : Option (List ℕ)) → first_of form g ≡ first v next
          → as_pairs (pairs_of form (7 + 2 * i) (n - i) f) ≡ as_pairs (pairs_of form (7 + 2 * (i + 1)) (n - (i + 1)) next)
      pairs_go v next e =
          let left : n - (i + 1) ≡ n - i - 1 = omega arith in
          let field : 7 + 2 * (i + 1) ≡ suc (suc (7 + 2 * i)) = omega arith in
          rw (left, field) (pair_on form (7 + 2 * i) f event g first_is (n - i) (omega arith) v next e)

  module _ (l : List ℕ) (at : ℕ) (all : n ≤ i) where
    none_left : n - i ≡ 0
    none_left = omega arith

    pub pairs_end : length l < at → Ok Others ≡ as_pairs (pairs_of form (7 + 2 * i) (n - i) (rest_at l at))
    unfolding pairs_of as_pairs
    pairs_end h = rw (none_left, past l at h)

    pub pairs_more : at ≤ length l → Err (7 + 2 * i) ≡ as_pairs (pairs_of form (7 + 2 * i) (n - i) (rest_at l at))
    unfolding pairs_of as_pairs
    pairs_more h = rw (none_left, inside l at h)

-- ---- the descriptor

module _ {k u : ℤ} (same : u ≡ k) {quoted : List ℕ → Option ℤ} (is-quoted : quoted ≡ quoted_for u) (f : Option (List ℕ)) where
  pub no_quote : (n : ℕ) → Few n → first_of quoted f ≡ nothing → Err 6 ≡ as_pairs (pairs_for k n f)
  unfolding pairs_for as_pairs
  no_quote zero few e = absurd (omega (arith, few.some))
  no_quote (suc n) few e = rw (le-leb (suc n) 16 few.most, ← same, ← is-quoted, e)

  pub quote : (n : ℕ) → Few n → {told : List ℕ → Option ℤ} → told ≡ told_for u → (d : ℤ) (g : Option (List ℕ)) → first_of quoted f ≡ first d g
      → as_pairs (pairs_of told 7 n g) ≡ as_pairs (pairs_for k n f)
  unfolding pairs_for
  quote zero few is_told d g e = absurd (omega (arith, few.some))
  quote (suc n) few is_told d g e = rw (le-leb (suc n) 16 few.most, ← same, ← is-quoted, e, is_told)
