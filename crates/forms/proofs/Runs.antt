-- Laws of `digits_from`: a turn of the loop that reads digits, one run behind another, how large the number grows, and that no
-- two runs of one length write the same number.
use Rattle.std.specs.Prelude.{Option, Some, None}
use Rattle.std.proofs.lemmas.Option.{same_Some}
use Prim.Native.Nat.{ℕ, suc, ◌+◌, ◌-◌, ◌*◌, ◌^◌, ◌≤◌, ◌<◌}
use mathlib.Core.Path.{◌≡◌, refl, ◌∙◌}
use mathlib.Core.List.{List, [], ◌∷◌, ◌++◌}
use mathlib.Core.Bool.{Bool, true, false, cond, ◌&&◌}
use native.Mathlib.Numerals.{add-one}
use native.Mathlib.Nat.{add-zero, pow-suc, pow-le-pow_right}
use native.Mathlib.Omega.{arith}
use lib.ListN.{length, get_or, drop}
use lib.Seq.{drop-cons}
use lib.Dec.{leb, lit<}
use borrow.Author.Tests.{le-leb, lt-leb, leb-true}
use Rattle.paper.specs.Forms.{is_digit, digits_from}
use Rattle.forms.proofs.Tests.{both, passed}

-- ---- a turn of the loop, by the byte b at i

module _ (s : List ℕ) (i v b : ℕ) (h : i < length s) (e : b ≡ get_or s i 0) where
  turn : digits_from v (drop i s) ≡ cond (is_digit b) (digits_from (v * 10 + (b - 48)) (drop (i + 1) s)) None
  unfolding digits_from
  turn = rw (add-one, drop-cons s i 0, ← e)

  pub too_low : b < 48 → digits_from v (drop i s) ≡ None
  unfolding is_digit
  too_low p = turn ∙ rw (lt-leb 48 b)

  pub too_high : 48 ≤ b → 57 < b → digits_from v (drop i s) ≡ None
  unfolding is_digit
  too_high p q = turn ∙ rw (le-leb 48 b, lt-leb b 57)

  pub good : 48 ≤ b → b ≤ 57 → digits_from v (drop i s) ≡ digits_from (v * 10 + (b - 48)) (drop (i + 1) s)
  unfolding is_digit
  good p q = turn ∙ rw (le-leb 48 b, le-leb b 57)

-- ---- one run behind another

unfoldable pub onward : Option ℕ → List ℕ → Option ℕ
onward None b = None
onward (Some v) b = digits_from v b

pub joined : (v : ℕ) (a b : List ℕ) → digits_from v (a ++ b) ≡ onward (digits_from v a) b
unfolding digits_from onward
joined v [] b = refl
joined v (d ∷ a) b = rw (joined (v * 10 + (d - 48)) a b) (go (is_digit d) (digits_from (v * 10 + (d - 48)) a))
  where
    go : (t : Bool) (o : Option ℕ) → cond t (onward o b) None ≡ onward (cond t o None) b
    go true o = refl
    go false o = refl

-- ---- how large

pub cap : (k most : ℕ) → k ≤ most → 10 ^ k ≤ 10 ^ most
cap k most h = pow-le-pow_right (lit< tt) h

pub grows : (k v d : ℕ) → v < 10 ^ k → d ≤ 9 → v * 10 + d < 10 ^ (k + 1)
grows k v d h l = rw (add-one, pow-suc) (omega arith)

-- of a good run, its first byte and the rest
pub first : (v d : ℕ) (a : List ℕ) {n : ℕ} → digits_from v (d ∷ a) ≡ Some n → (48 ≤ d) × (d ≤ 57) × (digits_from (v * 10 + (d - 48)) a ≡ Some n)
unfolding digits_from is_digit
first v d a e =
    let p = passed (leb 48 d && leb d 57) (digits_from (v * 10 + (d - 48)) a) e in
    let q = both (leb 48 d) (leb d 57) p.0 in
    (leb-true 48 d q.0, leb-true d 57 q.1, p.1)

along : (k n : ℕ) → k + 1 + n ≡ k + suc n
along k n = omega arith

pub below : (v k n : ℕ) (a : List ℕ) → digits_from v a ≡ Some n → v < 10 ^ k → n < 10 ^ (k + length a)
unfolding digits_from
below v k n [] e h = rw (add-zero, ← same_Some v n e) h
below v k n (d ∷ a) e h =
    let f = first v d a e in
    rw (← along k (length a)) (below (v * 10 + (d - 48)) (k + 1) n a f.2 (grows k v (d - 48) h (omega arith)))

pub reaches : (v k n : ℕ) (a : List ℕ) → digits_from v a ≡ Some n → 10 ^ k ≤ v → 10 ^ (k + length a) ≤ n
unfolding digits_from
reaches v k n [] e h = rw (add-zero, ← same_Some v n e) h
reaches v k n (d ∷ a) e h =
    let f = first v d a e in
    rw (← along k (length a)) (reaches (v * 10 + (d - 48)) (k + 1) n a f.2 (rw (add-one, pow-suc) (omega arith)))

-- ---- no two runs of one length

pub apart : (v w n : ℕ) (a b : List ℕ) → length a ≡ length b → digits_from v a ≡ Some n → digits_from w b ≡ Some n → (v ≡ w) × (a ≡ b)
unfolding digits_from
apart v w n [] [] l p q = (cc, refl)
apart v w n [] (e ∷ b) l p q = absurd (omega arith)
apart v w n (d ∷ a) [] l p q = absurd (omega arith)
apart v w n (d ∷ a) (e ∷ b) l p q =
    let f = first v d a p in
    let g = first w e b q in
    let r = apart (v * 10 + (d - 48)) (w * 10 + (e - 48)) n a b (omega arith) f.2 g.2 in
    let de : d ≡ e = omega arith in
    (omega arith, cc)
