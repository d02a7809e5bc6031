-- Laws of the time without its sign: a whole part, a point, six digits.
use Rattle.std.specs.Prelude.{Option, Some, None}
use Prim.Native.Nat.{ℕ, ◌+◌, ◌-◌, ◌^◌, ◌≤◌, ◌<◌}
use mathlib.Core.Path.{◌≡◌, refl, ap, sym, ◌∙◌}
use mathlib.Core.List.{List, ◌∷◌, ◌++◌}
use mathlib.Core.Bool.{Bool, true, false, cond, ◌&&◌, and-true, and-false}
use native.Mathlib.Numerals.{add-one}
use native.Mathlib.Nat.{sub-zero}
use native.Mathlib.Omega.{arith}
use lib.ListN.{length, get_or, take, drop, length-take, length-drop}
use lib.Seq.{split_at}
use lib.Dec.{leb, eqb}
use borrow.Author.Tests.{le-leb, lt-leb, eq-eqb, ne_eqb, leb-true, eqb-true}
use Rattle.paper.specs.Forms.{digits_from, unled, time_size}
use Rattle.forms.specs.Sizes.{AtMost, whole_part}
use Rattle.forms.proofs.Tests.{never, both, passed}
use Rattle.forms.proofs.Runs.{onward, joined, below, apart}
use Rattle.forms.proofs.Signs.{part_from}
use Rattle.forms.proofs.Wholes.{good_part, part_range, one_part}

-- where the point stands
abbrev pub point_at : List ℕ → ℕ
point_at s = length s - 7

-- ---- the ways of the code

module _ (s : List ℕ) where
  pub time_short : length s < 8 → time_size s ≡ None
  unfolding time_size unled
  time_short h = let z : length s - 7 ≡ 0 = omega arith in rw (le-leb (length s) 16 (omega arith), z)

  pub time_long : 16 < length s → time_size s ≡ None
  unfolding time_size
  time_long h = rw (lt-leb (length s) 16)

  pub pointless : (get_or s (point_at s) 0 ≡ 46 → ⊥) → time_size s ≡ None
  unfolding time_size
  pointless p = rw (ne_eqb (get_or s (point_at s) 0) 46, and-false)

  pub in_parts : length s ≤ 16 → get_or s (point_at s) 0 ≡ 46 → time_size s ≡ onward (whole_part (take (point_at s) s)) (drop (point_at s + 1) s)
  unfolding time_size whole_part onward
  in_parts h p = rw (le-leb (length s) 16, eq-eqb (get_or s (point_at s) 0) 46, and-true, joined) (go (unled (take (point_at s) s)))
    where
      go : (t : Bool) → cond t (onward (digits_from 0 (take (point_at s) s)) (drop (point_at s + 1) s)) None ≡ onward (cond t (digits_from 0 (take (point_at s) s)) None) (drop (point_at s + 1) s)
      go true = refl
      go false = refl

  -- o is what was read of the whole part, as the code lends it
  module _ (h : length s ≤ 16) (p : get_or s (point_at s) 0 ≡ 46) (o : Option ℕ) (e : o ≡ whole_part (take (point_at s - 0) (drop 0 s))) where
    whole_read : o ≡ whole_part (take (point_at s) s)
    whole_read = rw sub-zero at e

    pub whole_bad : o ≡ None → None ≡ time_size s
    unfolding onward
    whole_bad b = sym (in_parts h p ∙ rw (← whole_read, b))

    module _ (v : ℕ) (b : o ≡ Some v) where
      pub whole_below : v < 10 ^ 9
      unfolding AtMost
      whole_below = omega (arith, part_range (take (point_at s) s) (simp length-take (omega arith)) v (sym whole_read ∙ b))

      pub whole_good : digits_from v (take (length s - (point_at s + 1)) (drop (point_at s + 1) s)) ≡ time_size s
      unfolding onward
      whole_good = rw part_from (sym (in_parts h p ∙ rw (← whole_read, b)))

-- ---- a good time: its parts

pub record Time (s : List ℕ) (n : ℕ) : Type 0 where
  pub least : 8 ≤ length s
  pub most : length s ≤ 16
  pub point : get_or s (point_at s) 0 ≡ 46
  pub seconds : ℕ
  pub whole : whole_part (take (point_at s) s) ≡ Some seconds
  pub rest : digits_from seconds (drop (point_at s + 1) s) ≡ Some n

pub good_time : (s : List ℕ) (n : ℕ) → time_size s ≡ Some n → Time s n
unfolding time_size onward
good_time s n e =
    let form = leb (length s) 16 && unled (take (point_at s) s) in
    let p = passed _ (digits_from 0 (take (point_at s) s ++ drop (point_at s + 1) s)) e in
    let q = both form (eqb (get_or s (point_at s) 0) 46) p.0 in
    let h = leb-true (length s) 16 (both (leb (length s) 16) (unled (take (point_at s) s)) q.0).0 in
    let d = eqb-true (get_or s (point_at s) 0) 46 q.1 in
    go h d (whole_part (take (point_at s) s)) refl (sym (in_parts s h d) ∙ e)
  where
    go : length s ≤ 16 → get_or s (point_at s) 0 ≡ 46 → (o : Option ℕ) → whole_part (take (point_at s) s) ≡ o → onward o (drop (point_at s + 1) s) ≡ Some n → Time s n
    go h d None w r = never (cc)
    go h d (Some v) w r =
        let l = simp length-take at (good_part (take (point_at s) s) v w).some_digit in
        record { least = omega arith; most = h; point = d; seconds = v; whole = w; rest = r }

module _ {s : List ℕ} {n : ℕ} (t : Time s n) where
  pub length_whole : length (take (point_at s) s) ≤ 9
  length_whole = simp length-take (omega (arith, t.most))

  pub six : length (drop (point_at s + 1) s) ≡ 6
  six = simp length-drop (omega (arith, t.least))

  pub split : s ≡ take (point_at s) s ++ (46 ∷ drop (point_at s + 1) s)
  split = rw add-one (split_at s (point_at s) 0 (omega (arith, t.least)) ∙ rw t.point)

pub time_range : (s : List ℕ) → AtMost 999999999999999 (time_size s)
unfolding AtMost
time_range s n e =
    let t = good_time s n e in
    let v : t.seconds < 10 ^ 9 = omega (arith, part_range (take (point_at s) s) (length_whole t) t.seconds t.whole) in
    omega (arith, rw (six t) at (below t.seconds 9 n (drop (point_at s + 1) s) t.rest v))

-- no two times without a sign read as the same number
pub one_time : (s u : List ℕ) (n : ℕ) → time_size s ≡ Some n → time_size u ≡ Some n → s ≡ u
one_time s u n p q =
    let a = good_time s n p in
    let b = good_time u n q in
    let r = apart a.seconds b.seconds n (drop (point_at s + 1) s) (drop (point_at u + 1) u) (six a ∙ sym (six b)) a.rest b.rest in
    let w = one_part (take (point_at s) s) (take (point_at u) u) a.seconds a.whole (b.whole ∙ ap Some (sym r.0)) in
    split a ∙ rw (w, r.1) (sym (split b))
