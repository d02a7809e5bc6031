-- Digits read where they stand.
use Rattle.std.specs.Prelude.{Some}
use Prim.Native.Nat.{ℕ, ◌+◌, ◌-◌, ◌*◌, ◌≤◌, ◌<◌}
use mathlib.Core.Path.{◌≡◌, refl, sym, ap, ◌∙◌}
use mathlib.Core.List.{List, [], ◌∷◌, ◌++◌}
use mathlib.Core.Bool.{Bool, true, false, not, ◌||◌, ◌&&◌}
use native.Mathlib.Numerals.{add-one}
use native.Mathlib.Nat.{zero-add}
use native.Mathlib.Omega.{arith}
use lib.ListN.{length, get_or, drop, length-append, get_or-append}
use lib.Seq.{drop-cons, append_snoc}
use lib.Dec.{ltb, leb, eqb, lit<}
use borrow.Author.Tests.{not-false, leb-true, lt-leb, le-leb, ltb-true, ltb-false, eqb-true, eqb-false}
use Rattle.paper.specs.Forms.{is_digit, digits_from}
use Rattle.forms.specs.Sizes.{whole_part}
use Rattle.forms.proofs.Tests.{both}
use Rattle.forms.proofs.Runs.{onward, joined, below, cap}
use Rattle.forms.proofs.Wholes.{part_led, part_zero}
use Rattle.quick.specs.Words.{Word}

-- the byte at i, and what follows
pub here : (s : List ℕ) (i b : ℕ) → i < length s → b ≡ get_or s i 0 → drop i s ≡ b ∷ drop (i + 1) s
here s i b h e = rw (add-one, e) (drop-cons s i 0 h)

pub a_digit : (b : ℕ) → not (is_digit b) ≡ false → (48 ≤ b) × (b ≤ 57)
unfolding is_digit
a_digit b e = let p = both (leb 48 b) (leb b 57) (not-false _ e) in (leb-true 48 b p.0, leb-true b 57 p.1)

-- the digits up to i, of which the first counts
pub record Going (s : List ℕ) (at i v : ℕ) : Type 0 where
  pub word : List ℕ
  pub is : drop at s ≡ word ++ drop i s
  pub reads : digits_from 0 word ≡ Some v
  pub led : get_or word 0 0 ≡ 48 → ⊥
  pub long : i ≡ at + length word
  pub some_digit : 0 < length word
  pub few : length word ≤ 9

one : (v b : ℕ) → not (is_digit b) ≡ false → digits_from v (b ∷ []) ≡ Some (v * 10 + (b - 48))
unfolding digits_from
one v b d = rw (not-false (is_digit b) d)

module _ (s : List ℕ) (at b : ℕ) (h : at < length s) (e : b ≡ get_or s at 0) where
  pub begins : not (is_digit b) ≡ false → (b ≡ 48 → ⊥) → Going s at (at + 1) (b - 48)
  begins d z =
      record {
        word = b ∷ [];
        is = here s at b h e;
        reads = one 0 b d ∙ ap Some (omega arith);
        led = z;
        long = refl;
        some_digit = lit< tt;
        few = omega arith;
      }

  pub zero_alone : b ≡ 48 → Word whole_part Some 9 s at 0 (at + 1)
  zero_alone z =
      record {
        word = 48 ∷ [];
        is = rw (← z) (here s at b h e);
        reads = part_zero (48 ∷ []) refl refl;
        long = refl;
        few = omega arith;
      }

module _ (s : List ℕ) (at i v : ℕ) (g : Going s at i v) where
  pub done : Word whole_part Some 9 s at v i
  done =
      record {
        word = g.word;
        is = g.is;
        reads = part_led g.word (λ e. omega (arith, g.some_digit)) g.led ∙ g.reads;
        long = g.long;
        few = g.few;
      }

  pub small : i < at + 9 → v < 100000000
  small h = omega (arith, rw zero-add at (below 0 0 v g.word g.reads (lit< tt)), cap (length g.word) 8 (omega (arith, g.long)))

  pub goes : (b : ℕ) → i < length s → i < at + 9 → b ≡ get_or s i 0 → not (is_digit b) ≡ false → Going s at (i + 1) (v * 10 + (b - 48))
  unfolding onward
  goes b h l e d =
      record {
        word = g.word ++ (b ∷ []);
        is = g.is ∙ rw (here s i b h e) (sym (append_snoc g.word b (drop (i + 1) s)));
        reads = joined 0 g.word (b ∷ []) ∙ rw g.reads (one v b d);
        led = rw (get_or-append g.word (b ∷ []) 0 0 g.some_digit) g.led;
        long = rw length-append (omega (arith, g.long));
        some_digit = rw length-append (omega (arith, g.some_digit));
        few = rw length-append (omega (arith, g.long));
      }

pub outside : (b : ℕ) → (ltb b 48 || ltb 57 b) ≡ not (is_digit b)
unfolding is_digit
outside b = go (ltb b 48) (ltb 57 b) refl refl
  where
    go : (t u : Bool) → ltb b 48 ≡ t → ltb 57 b ≡ u → (t || u) ≡ not (leb 48 b && leb b 57)
    go true u p q = rw (lt-leb 48 b (ltb-true b 48 p))
    go false true p q = rw (le-leb 48 b (ltb-false b 48 p), lt-leb b 57 (ltb-true 57 b q))
    go false false p q = rw (le-leb 48 b (ltb-false b 48 p), le-leb b 57 (ltb-false 57 b q))

-- one digit, a 0 among them
pub alone : (s : List ℕ) (at b : ℕ) → at < length s → b ≡ get_or s at 0 → not (is_digit b) ≡ false → Word whole_part Some 9 s at (b - 48) (at + 1)
alone s at b h e d = go (eqb b 48) refl
  where
    go : (t : Bool) → eqb b 48 ≡ t → Word whole_part Some 9 s at (b - 48) (at + 1)
    go true q = let z = eqb-true b 48 q in rw z (zero_alone s at b h e z)
    go false q = done s at (at + 1) (b - 48) (begins s at b h e d (eqb-false b 48 q))
