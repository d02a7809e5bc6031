-- The pairs of a statistics line, one by one.
use Rattle.std.specs.Prelude.{Option, Some, Ok}
use Prim.Native.Nat.{ℕ, suc, ◌-◌, ◌≤◌, ◌<◌}
use mathlib.Core.Path.{◌≡◌, sym, ◌∙◌}
use mathlib.Core.List.{List}
use mathlib.Core.Bool.{Bool, false}
use native.Mathlib.Omega.{arith}
use lib.ListN.{length}
use lib.IntN.{ℤ}
use lib.Dec.{eqb}
use Rattle.paper.specs.Line.{first, first_of, pairs_of, quoted_for, told_for, as_pairs}
use Rattle.paper.specs.declared.Data.TheVariants.{Others}
use Rattle.field.specs.Cursor.{read_as}
use Rattle.field.specs.declared.Form.{Form}
use Rattle.field.specs.declared.Form.TheVariants.{Whole}
use Rattle.reading.specs.Places.{line_at, next_line}
use Rattle.reading.specs.Rests.{fields_from, end_from, Ended}
use Rattle.values.specs.Few.{Few}
use Rattle.values.proofs.Paired.{pair_on, quote}
use Rattle.quick.specs.Lines.{Told, in_pairs, pairs_in, DataAt}
use Rattle.quick.proofs.Takes.{going, last_test, behind_first}
use Rattle.paper.specs.declared.Data.{Data}

-- ---- the loop: what is left to read, from whatever field on, comes to what all come to

pub record Pairing (form : Form) (n : ℕ) (s : List ℕ) (at p left : ℕ) : Type 0 where
  k : ℕ
  reads : in_pairs form n (Some (line_at s at)) ≡ as_pairs (pairs_of (read_as form) k left (fields_from s (eqb left 0) p))
  same : next_line s at ≡ end_from s (eqb left 0) p
  near : at ≤ length s → p ≤ length s

pub pairing_start : (form : Form) (n : ℕ) (s : List ℕ) (at : ℕ) → 0 < n → Pairing form n s at at n
unfolding in_pairs fields_from end_from
pairing_start form n s at h = record { k = 7; reads = rw (going n h); same = rw (going n h); near = λ here. here }

module _ {form : Form} {n : ℕ} {s : List ℕ} {at p left : ℕ} (pairing : Pairing form n s at p left) where
  pub pairing_more : 0 < left → {event : ℤ} (second : ℕ) → Told (first_of (read_as Whole) (Some (line_at s p))) (first event) s p false second
      → {v : ℤ} (next : ℕ) {last : Bool} → last ≡ eqb left 1 → Told (first_of (read_as form) (Some (line_at s second))) (first v) s second last next
      → Pairing form n s at next (left - 1)
  unfolding fields_from end_from read_as
  pairing_more h {event} second one {v} next {last} is two =
      let at_last : last ≡ eqb (left - 1) 0 = is ∙ sym (last_test left h) in
      let read : first_of (read_as form) (Some (line_at s second)) ≡ first v (fields_from s (eqb (left - 1) 0) next) = rw at_last at two.reads in
      let end : next_line s second ≡ end_from s (eqb (left - 1) 0) next = rw at_last at two.same in
      record {
        k = suc (suc pairing.k);
        reads = pairing.reads ∙ rw (going left h) (pair_on (read_as form) pairing.k (Some (line_at s p)) event (Some (line_at s second)) one.reads left h v _ read);
        same = pairing.same ∙ rw (going left h) one.same ∙ end;
        near = λ here. two.near;
      }

  pub pairing_end : left ≤ 0 → Ended (Ok Others) (in_pairs form n (fields_from s false at)) s false at p
  unfolding fields_from end_from pairs_of as_pairs
  pairing_end h =
      let none_left : left ≡ 0 = omega arith in
      record { is = sym (pairing.reads ∙ rw none_left); ends = pairing.same ∙ rw none_left; near = pairing.near }

-- ---- the descriptor before them

pub behind_quote : (s : List ℕ) (at next n : ℕ) → Few n → {k u : ℤ} → u ≡ k → (quoted told : Form) → read_as quoted ≡ quoted_for u → read_as told ≡ told_for u
    → {d : ℤ} → Told (first_of (read_as quoted) (Some (line_at s at))) (first d) s at false next
    → (r : Option (Data × ℕ)) → DataAt (in_pairs told n) s false next r → DataAt (pairs_in k n) s false at r
unfolding in_pairs pairs_in
behind_quote s at next n few {k} same quoted told is-quoted is_told first-told r t =
    behind_first s at (pairs_in k n) (in_pairs told n) (read_as quoted) next first-told
    (λ f is. quote same is-quoted (Some (line_at s at)) n few is_told _ f is) r t
