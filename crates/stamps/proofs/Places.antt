-- Where the timestamp of a record stands: behind two spaces.
use Prim.Native.Nat.{ℕ, suc, ◌+◌, ◌≤◌}
use mathlib.Core.Path.{◌≡◌, sym, ◌∙◌}
use mathlib.Core.List.{List, []}
use native.Mathlib.Numerals.{add-one}
use native.Mathlib.Nat.{add-suc}
use native.Mathlib.Omega.{arith}
use lib.ListN.{length, drop, drop_of_length-le}
use lib.Seq.{drop-drop, drop-nil, drop-length}
use lib.IntN.{ℤ}
use Rattle.octets.specs.Octets.{index_of}
use Rattle.paper.specs.Line.{after}
use Rattle.shown.specs.Writes.{shown_length}
use Rattle.store.specs.Layout.{entry_from, start_from}
use Rattle.stamps.specs.Stamps.{stamp_on, stamp_length, Place, StampOf}

-- ---- one space

pub at_end : (s : List ℕ) (at : ℕ) → length s ≤ at → Place s (after (drop at s)) (length s)
unfolding after
at_end s at h = record { inside = omega arith; from = drop-length s ∙ rw (drop_of_length-le s h) (sym (drop-nil (suc (index_of 32 [])))) }

module _ (s : List ℕ) (at space : ℕ) (found : space ≡ at + index_of 32 (drop at s)) where
  beyond : drop (space + 1) s ≡ after (drop at s)
  unfolding after
  beyond =
      rw (found, add-one, ← add-suc) (sym (drop-drop (suc (index_of 32 (drop at s))) at s))

  pub a_space : space ≤ length s → (space ≡ length s → ⊥) → Place s (after (drop at s)) (space + 1)
  a_space h g = record { inside = omega arith; from = beyond }

  pub no_space : space ≡ length s → Place s (after (drop at s)) space
  no_space e =
      record {
        inside = omega arith;
        from = drop_of_length-le s {i = space} (omega arith) ∙ sym (drop_of_length-le s {i = space + 1} (omega arith)) ∙ beyond;
      }

-- ---- two spaces

pub third_at : (start : ℕ) {s : List ℕ} {second third : ℕ} → Place s (after (drop start s)) second → Place s (after (drop second s)) third
    → Place s (after (after (drop start s))) third
third_at start p q = record { inside = q.inside; from = rw (← p.from) q.from }

pub stamp_at : {s : List ℕ} {store : List ℕ} {i start third long : ℕ} {t : ℤ} → start ≡ start_from store i
    → Place s (after (after (drop start s))) third → t ≡ (entry_from store i).body.time → long ≡ shown_length t
    → StampOf s store i (record { at = third; long = long })
unfolding stamp_on stamp_length
stamp_at {s} is p time e = record { place = rw (← is) p; long = e ∙ rw time }
