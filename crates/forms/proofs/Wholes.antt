-- Laws of the whole number, and of the whole part of a time: digits without a leading zero.
use Rattle.std.specs.Prelude.{Option, Some, None}
use Prim.Native.Nat.{ℕ, suc, ◌+◌, ◌-◌, ◌*◌, ◌^◌, ◌≤◌, ◌<◌}
use mathlib.Core.Path.{◌≡◌, refl, sym, ◌∙◌}
use mathlib.Core.List.{List, [], ◌∷◌}
use mathlib.Core.Bool.{Bool, true, false, cond, not, ◌&&◌}
use native.Mathlib.Omega.{arith}
use native.Mathlib.Nat.{zero-add, le_antisymm, lt_of_not-le}
use lib.ListN.{length, get_or}
use lib.Dec.{leb, ltb, eqb, lit<}
use borrow.Author.Tests.{lt-ltb, eq-eqb, ne_eqb, ltb-true, eqb-false, not-true}
use Rattle.paper.specs.Forms.{digits_from, is_digit, unled, at_most, whole_size}
use Rattle.forms.specs.Sizes.{AtMost, whole_part}
use Rattle.forms.proofs.Tests.{never, both, passed, held_is, within, beyond}
use Rattle.forms.proofs.Runs.{first, below, reaches, cap, apart}

-- ---- the four ways of the code

pub part_empty : (s : List ℕ) → length s ≡ 0 → whole_part s ≡ None
unfolding whole_part unled
part_empty [] e = refl
part_empty (b ∷ s) e = absurd (omega arith)

pub part_led : (s : List ℕ) → (length s ≡ 0 → ⊥) → (get_or s 0 0 ≡ 48 → ⊥) → whole_part s ≡ digits_from 0 s
unfolding whole_part unled
part_led [] e p = absurd (e refl)
part_led (b ∷ []) e p = refl
part_led (b ∷ c ∷ s) e p = rw (ne_eqb b 48 p, lt-ltb 0 (suc (suc (length s))) (omega arith), lt-ltb 1 (suc (suc (length s))) (omega arith))

pub part_zero : (s : List ℕ) → get_or s 0 0 ≡ 48 → length s ≡ 1 → whole_part s ≡ Some 0
unfolding whole_part unled digits_from is_digit
part_zero [] p e = absurd (omega arith)
part_zero (b ∷ []) p e = rw p
part_zero (b ∷ c ∷ s) p e = absurd (omega arith)

pub part_zeros : (s : List ℕ) → (length s ≡ 0 → ⊥) → get_or s 0 0 ≡ 48 → (length s ≡ 1 → ⊥) → whole_part s ≡ None
unfolding whole_part unled
part_zeros s n p e = rw (eq-eqb (get_or s 0 0) 48 p, lt-ltb 0 (length s) (omega arith), lt-ltb 1 (length s) (omega arith))

-- ---- a good part: its digits, and where it is longer than one its first digit counts

pub record Part (s : List ℕ) (n : ℕ) : Type 0 where
  pub some_digit : 0 < length s
  pub reads : digits_from 0 s ≡ Some n
  pub high : n < 10 ^ length s
  pub low : (k : ℕ) → length s ≡ suc (suc k) → 10 ^ suc k ≤ n

pub good_part : (s : List ℕ) (n : ℕ) → whole_part s ≡ Some n → Part s n
unfolding whole_part unled
good_part s n e =
    let p = passed (unled s) (digits_from 0 s) e in
    let u = both (ltb 0 (length s)) (not (ltb 1 (length s) && eqb (get_or s 0 0) 48)) p.0 in
    record {
      some_digit = ltb-true 0 (length s) u.0;
      reads = p.1;
      high = rw zero-add at (below 0 0 n s p.1 (lit< tt));
      low = leads s (not-true _ u.1) p.1;
    }
  where
    leads : (s : List ℕ) → (ltb 1 (length s) && eqb (get_or s 0 0) 48) ≡ false → digits_from 0 s ≡ Some n → (k : ℕ) → length s ≡ suc (suc k) → 10 ^ suc k ≤ n
    leads [] u e k l = absurd (omega arith)
    leads (b ∷ s) u e k l =
        let f = first 0 b s e in
        let ne : b ≡ 48 → ⊥ = eqb-false b 48 (rw (lt-ltb 1 (suc (length s)) (omega arith)) at u) in
        let sk : length s ≡ suc k = omega arith in
        rw (← sk) (rw zero-add at (reaches (0 * 10 + (b - 48)) 0 n s f.2 (omega arith)))

-- no two parts read as the same number
pub one_part : (s t : List ℕ) (n : ℕ) → whole_part s ≡ Some n → whole_part t ≡ Some n → s ≡ t
one_part s t n p q =
    let a = good_part s n p in
    let b = good_part t n q in
    let l : length s ≡ length t = le_antisymm (no_longer s t a b) (no_longer t s b a) in
    (apart 0 0 n s t l a.reads b.reads).1
  where
    no_longer : (s t : List ℕ) → Part s n → Part t n → length s ≤ length t
    no_longer s t a b =
        let k = length s - 2 in
        omega (arith, lt_of_not-le {n = suc (length t)} {m = length s} (λ h. omega (arith, a.low k (omega (arith, b.some_digit)), cap (length t) (suc k) (omega arith), b.high)))

-- ---- a whole number: its length says whether it is in range

capped : (s : List ℕ) → whole_size s ≡ at_most 999999999 (whole_part s)
unfolding whole_size whole_part at_most
capped s = go (unled s)
  where
    go : (t : Bool) → cond t (at_most 999999999 (digits_from 0 s)) None ≡ at_most 999999999 (cond t (digits_from 0 s) None)
    go true = refl
    go false = refl

pub part_range : (s : List ℕ) → length s ≤ 9 → AtMost 999999999 (whole_part s)
unfolding AtMost
part_range s h n e = omega (arith, (good_part s n e).high, cap (length s) 9 h)

pub whole_short : (s : List ℕ) → length s ≤ 9 → whole_size s ≡ whole_part s
whole_short s h = capped s ∙ within 999999999 (whole_part s) (part_range s h)

pub whole_long : (s : List ℕ) → 9 < length s → whole_size s ≡ None
whole_long s h =
    capped s ∙ beyond 999999999 (whole_part s) (λ n e. omega (arith, (good_part s n e).low (length s - 2) (omega arith), cap 9 (suc (length s - 2)) (omega arith)))

pub whole_range : (s : List ℕ) → AtMost 999999999 (whole_size s)
unfolding AtMost at_most
whole_range s = rw (capped s) (bounded (whole_part s))
  where
    bounded : (o : Option ℕ) → AtMost 999999999 (at_most 999999999 o)
    bounded None n e = never (cc)
    bounded (Some m) n e = omega (arith, held_is {m = n} {n = m} {most = 999999999} (sym e))

-- a whole number is well within the times
pub whole_small : (s : List ℕ) → AtMost 999999999999999 (whole_size s)
unfolding AtMost
whole_small s n e = omega (arith, whole_range s n e)

-- a good whole number is a good part
pub whole_is_part : (s : List ℕ) (n : ℕ) → whole_size s ≡ Some n → whole_part s ≡ Some n
unfolding at_most
whole_is_part s n e = go (whole_part s) (sym (capped s) ∙ e)
  where
    go : (o : Option ℕ) → at_most 999999999 o ≡ Some n → o ≡ Some n
    go None e = e
    go (Some m) e = (passed (leb m 999999999) (Some m) e).1
