-- Bytes that stand in no number and no time: none of them is among digits, in a good part or in a good time without its sign.
use Rattle.std.specs.Prelude.{Some}
use Prim.Native.Nat.{ℕ, ◌+◌, ◌-◌, ◌*◌, ◌≤◌}
use mathlib.Core.Path.{◌≡◌, sym}
use mathlib.Core.List.{List, [], ◌∷◌, ◌++◌}
use mathlib.Core.Bool.{true, false, not, ◌&&◌}
use lib.ListN.{take, drop}
use lib.Dec.{eqb}
use borrow.Author.Tests.{le-leb, eqb-false, not-true}
use Rattle.paper.specs.Forms.{is_digit, digits_from, time_size}
use Rattle.forms.specs.Sizes.{whole_part}
use Rattle.forms.specs.Free.{Free, foreign}
use Rattle.forms.proofs.Tests.{never, both}
use Rattle.forms.proofs.Runs.{first}
use Rattle.forms.proofs.Wholes.{good_part}
use Rattle.forms.proofs.Times.{point_at, good_time, split}

pub free_append : (b : ℕ) (l m : List ℕ) → Free b l → Free b m → Free b (l ++ m)
unfolding Free
free_append b [] m f g = g
free_append b (x ∷ l) m f g = (f.0, free_append b l m f.1 g)

module _ (b : ℕ) (f : foreign b ≡ true) where
  tests : (is_digit b ≡ false) × (b ≡ 45 → ⊥) × (b ≡ 46 → ⊥)
  unfolding foreign
  tests =
      let p = both (not (is_digit b) && not (eqb b 45)) (not (eqb b 46)) f in
      let q = both (not (is_digit b)) (not (eqb b 45)) p.0 in
      (not-true _ q.0, eqb-false b 45 (not-true _ q.1), eqb-false b 46 (not-true _ p.1))

  pub foreign_digit : {d : ℕ} → 48 ≤ d → d ≤ 57 → d ≡ b → ⊥
  unfolding is_digit
  foreign_digit {d} l h e =
      let t : is_digit d ≡ true = rw (le-leb 48 d, le-leb d 57) in
      let q : is_digit b ≡ true = rw (← e) t in
      never (cc tests.0)

  pub foreign_minus : 45 ≡ b → ⊥
  foreign_minus e = tests.1 (sym e)

  pub foreign_point : 46 ≡ b → ⊥
  foreign_point e = tests.2 (sym e)

  pub digits_free : (v n : ℕ) (s : List ℕ) → digits_from v s ≡ Some n → Free b s
  unfolding Free
  digits_free v n [] e = tt
  digits_free v n (d ∷ s) e = let p = first v d s e in (foreign_digit p.0 p.1, digits_free (v * 10 + (d - 48)) n s p.2)

  pub part_free : (s : List ℕ) (n : ℕ) → whole_part s ≡ Some n → Free b s
  part_free s n e = digits_free 0 n s (good_part s n e).reads

  pub parts_free : (s : List ℕ) (n : ℕ) → time_size s ≡ Some n → Free b s
  unfolding Free
  parts_free s n e =
      let t = good_time s n e in
      rw (split t)
      (free_append b (take (point_at s) s) (46 ∷ drop (point_at s + 1) s) (part_free _ _ t.whole) (foreign_point, digits_free _ n _ t.rest))
