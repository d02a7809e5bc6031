-- The fields behind the six, by the record type: pairs, or other data. None and too many come to the same of both.
use Rattle.std.specs.Prelude.{Option, Result, Some, None, Ok, Err}
use Prim.Native.Nat.{ℕ, zero, suc, ◌≤◌, ◌<◌}
use mathlib.Core.Path.{◌≡◌, refl, sym}
use mathlib.Core.List.{List}
use mathlib.Core.Bool.{Bool, true, false, cond}
use native.Mathlib.Omega.{arith}
use lib.ListN.{length, drop}
use lib.IntN.{ℤ}
use borrow.Author.Tests.{lt-leb}
use Rattle.paper.specs.Events.{is_statistics}
use Rattle.paper.specs.Line.{values_of, as_others, data_of, pairs_of, pairs_for, as_pairs, values_in}
use Rattle.paper.specs.declared.Data.TheVariants.{Others}
use Rattle.reading.proofs.Data.{data_many}
use Rattle.field.specs.Cursor.{rest_at}
use Rattle.field.proofs.Cursors.{past, inside}
use Rattle.values.specs.Few.{Few}
use Rattle.paper.specs.declared.Data.{Data}

pub few : {n : ℕ} → (n ≡ 0 → ⊥) → n ≤ 16 → Few n
few h k = record { some = omega arith; most = k }

same_either : (t : Bool) {x y z : Result Data ℕ} → x ≡ y → x ≡ z → x ≡ cond t y z
same_either true e f = e
same_either false e f = f

pub nothing_due : (kind : ℤ) (n : ℕ) → n ≡ 0 → Ok Others ≡ values_in kind n None
unfolding values_in data_of values_of as_others pairs_for pairs_of as_pairs
nothing_due kind zero e = same_either (is_statistics kind) refl refl
nothing_due kind (suc n) e = absurd (omega arith)

something_there : (kind : ℤ) (n : ℕ) → n ≡ 0 → (l : List ℕ) → Err 6 ≡ values_in kind n (Some l)
unfolding values_in data_of values_of as_others pairs_for pairs_of as_pairs
something_there kind zero e l = same_either (is_statistics kind) refl refl
something_there kind (suc n) e l = absurd (omega arith)

module _ (kind : ℤ) (l : List ℕ) (at n : ℕ) (none_due : n ≡ 0) where
  pub no_data : length l < at → Ok Others ≡ values_in kind n (rest_at l at)
  no_data h = rw (past l at h) (nothing_due kind n none_due)

  pub some_data : at ≤ length l → Err 6 ≡ values_in kind n (rest_at l at)
  some_data h = rw (inside l at h) (something_there kind n none_due (drop at l))

pairs_many : (kind : ℤ) (n : ℕ) (f : Option (List ℕ)) → 16 < n → Err 5 ≡ as_pairs (pairs_for kind n f)
unfolding pairs_for as_pairs
pairs_many kind zero f h = absurd (omega arith)
pairs_many kind (suc n) f h = rw (lt-leb (suc n) 16 h)

-- "at most 16"
pub too_many_lem : (kind : ℤ) (f : Option (List ℕ)) (n : ℕ) → 16 < n → Err 5 ≡ values_in kind n f
unfolding values_in
too_many_lem kind f n h = same_either (is_statistics kind) (pairs_many kind n f h) (sym (data_many n f h))

module _ {k u : ℤ} (same : u ≡ k) {t : Bool} (tells : t ≡ is_statistics u) (n : ℕ) (f : Option (List ℕ)) where
  pub in_pairs : t ≡ true → as_pairs (pairs_for u n f) ≡ values_in k n f
  unfolding values_in
  in_pairs is = rw (← same, ← tells, is)

  pub in_data : t ≡ false → data_of n f ≡ values_in k n f
  unfolding values_in
  in_data is = rw (← same, ← tells, is)
