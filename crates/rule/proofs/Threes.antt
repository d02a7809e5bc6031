-- Numbers, names and the three words of a line.
use Rattle.std.specs.Prelude.{Option, Some, None, Ok}
use Prim.Native.Nat.{ℕ, ◌-◌, ◌≤◌, ◌<◌}
use mathlib.Core.Path.{◌≡◌, refl, sym, ◌∙◌}
use mathlib.Core.Bool.{Bool, true, false, cond, ◌&&◌}
use mathlib.Core.List.{List, [], ◌∷◌}
use native.Mathlib.Omega.{arith}
use lib.ListN.{length, get_or, take, drop, length-drop, drop_of_length-le}
use lib.IntN.{ℤ, pos, negsuc, nat_abs}
use lib.Dec.{eqb, leb}
use borrow.Author.Tests.{eq-eqb, ne_eqb, leb-true}
use Rattle.paper.specs.Tests.{up_to}
use Rattle.paper.specs.Forms.{whole_of}
use Rattle.signed.specs.Naturals.{natural_of}
use Rattle.rule.specs.Words.{next}
use Rattle.rule.specs.Rule.{natural, is_star, who_of, alone, last_of, rule_of, three, on_three, on_words}
use Rattle.rule.specs.Cursor.{Starts, Ends, Names}
use Rattle.rule.specs.declared.three.Named.{Named}

-- ---- a number

pub good_number : (most : ℕ) {f : Option ℤ} {u z : ℤ} → u ≡ z → f ≡ Some z → (natural_of most u) ≡ natural most f
unfolding natural_of natural
good_number most {u = u} {z = z} p e = rw (e, ← p) (go (up_to most u) (nat_abs u))
  where
    go : (t : Bool) (n : ℕ) → (cond t (Some n) None) ≡ cond t (Some n) None
    go true n = refl
    go false n = refl

pub bad_number : (most : ℕ) {f : Option ℤ} → f ≡ None → None ≡ natural most f
unfolding natural
bad_number most e = rw e

pub natural_low : (most : ℕ) (f : Option ℤ) (n : ℕ) → natural most f ≡ Some n → n ≤ most
unfolding natural
natural_low most None n e = absurd (let q : ◌≡◌ {A = ℕ} 0 1 = cc in omega arith)
natural_low most (Some (negsuc m)) n e = absurd (let q : ◌≡◌ {A = ℕ} 0 1 = cc in omega arith)
natural_low most (Some (pos m)) n e = go (leb 0 m) (leb m most) refl e
  where
    go : (a b : Bool) → leb m most ≡ b → cond (a && b) (Some m) None ≡ Some n → n ≤ most
    go true true p e = let q : m ≡ n = cc in omega (arith, leb-true m most p)
    go true false p e = absurd (let q : ◌≡◌ {A = ℕ} 0 1 = cc in omega arith)
    go false b p e = absurd (let q : ◌≡◌ {A = ℕ} 0 1 = cc in omega arith)

-- ---- a star

pub long_star : (w : List ℕ) → (length w ≡ 1 → ⊥) → is_star w ≡ false
unfolding is_star
long_star w h = rw (ne_eqb (length w) 1 h)

pub one_byte : (w : List ℕ) → length w ≡ 1 → is_star w ≡ eqb (get_or w 0 0) 42
unfolding is_star
one_byte w h = rw (eq-eqb (length w) 1 h)

pub ruleset stars = (long_star, one_byte)

-- ---- one of the first two words

pub names : (l : List ℕ) (at end : ℕ) (named : Named) → Ends l at end → named.who ≡ who_of (take (end - at) (drop at l)) → Starts l end named.next → Names l at named
unfolding next
names l at end named ends is starts = record { is = is ∙ rw ends.is; rest = starts.is ∙ rw ends.rest; within = starts.within }

-- ---- the third word

module _ (l : List ℕ) (at end start : ℕ) (ends : Ends l at end) (starts : Starts l end start) where
  follows : drop start l ≡ next (drop at l)
  unfolding next
  follows = starts.is ∙ rw ends.rest

  -- something stands behind it
  pub more_behind : start < length l → None ≡ last_of (drop at l)
  unfolding last_of alone
  more_behind h = rw (← follows) (go (drop start l) _ (rw length-drop (omega arith)))
    where
      go : (r : List ℕ) (o : Option ℕ) → 0 < length r → None ≡ alone r o
      go [] o h = absurd (omega arith)
      go (b ∷ r) o h = refl

  -- nothing does
  pub none_behind : length l ≤ start → {x : Option ℕ} → x ≡ natural 1000000 (whole_of (take (end - at) (drop at l))) → x ≡ last_of (drop at l)
  unfolding last_of alone
  none_behind h reads = rw (← follows, drop_of_length-le l h, ← ends.is) reads

pub number_low : (most : ℕ) (f : Option ℤ) {x : Option ℕ} (n : ℕ) → x ≡ natural most f → x ≡ Some n → n ≤ most
number_low most f n e p = natural_low most f n (sym e ∙ p)

-- ---- what the three words come to

pub three_read : {l : List ℕ} {at : ℕ} {first second : Named} → Names l at first → Names l first.next second
    → three (drop at l) ≡ rule_of first.who second.who (last_of (drop second.next l))
unfolding three
three_read n m = rw (n.is, m.is, m.rest, n.rest)

-- ---- a line

pub some_words : (l : List ℕ) (start : ℕ) {t : List ℕ} → drop start l ≡ t → (start ≡ length l → ⊥) → start ≤ length l → on_three (three (drop start l)) ≡ on_words t
unfolding on_words
some_words l start e n h = rw (← e) (go (drop start l) (rw length-drop (omega arith)))
  where
    go : (t : List ℕ) → 0 < length t → on_three (three t) ≡ on_words t
    go [] h = absurd (omega arith)
    go (b ∷ t) h = refl

pub no_words : (l : List ℕ) (start : ℕ) {t : List ℕ} → drop start l ≡ t → start ≡ length l → Ok None ≡ on_words t
unfolding on_words
no_words l start e h = let z : drop start l ≡ [] = drop_of_length-le l {i = start} (omega arith) in rw (← e, z)
