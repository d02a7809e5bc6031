-- A point and six digits: every byte asked at once, and one sum.
use Rattle.std.specs.Prelude.{Some}
use Prim.Native.Nat.{ℕ, ◌+◌, ◌-◌, ◌*◌, ◌≤◌, ◌<◌}
use mathlib.Core.Path.{◌≡◌, refl, ap, ◌∙◌}
use mathlib.Core.List.{List, [], ◌∷◌}
use mathlib.Core.Bool.{Bool, true, false, not, ◌||◌}
use native.Mathlib.Omega.{arith}
use lib.ListN.{length, get_or, drop}
use lib.Dec.{ltb, eqb}
use borrow.Author.Tests.{not-false, ltb-false, eqb-true, le-leb}
use Rattle.paper.specs.Forms.{is_digit, digits_from}
use Rattle.quick.specs.Stamps.{Six, Point, Micros, six_of}
use Rattle.quick.proofs.Runs.{here}

neither : (t u : Bool) → (t || u) ≡ false → (t ≡ false) × (u ≡ false)
neither true u e = (cc, cc)
neither false u e = (refl, e)

pub point_of : (p a b c d e f : ℕ)
    → (not (eqb p 46) || ltb a 48 || ltb 57 a || ltb b 48 || ltb 57 b || ltb c 48 || ltb 57 c || ltb d 48 || ltb 57 d || ltb e 48 || ltb 57 e || ltb f 48 || ltb 57 f) ≡ false
    → Point p a b c d e f
point_of p a b c d e f t =
    let t₁ = neither _ _ t in
    let t₂ = neither _ _ t₁.0 in
    let t₃ = neither _ _ t₂.0 in
    let t₄ = neither _ _ t₃.0 in
    let t₅ = neither _ _ t₄.0 in
    let t₆ = neither _ _ t₅.0 in
    let t₇ = neither _ _ t₆.0 in
    let t₈ = neither _ _ t₇.0 in
    let t₉ = neither _ _ t₈.0 in
    let u₁ = neither _ _ t₉.0 in
    let u₂ = neither _ _ u₁.0 in
    let u₃ = neither _ _ u₂.0 in
    record {
      is_point = eqb-true p 46 (not-false _ u₃.0);
      digits =
          record {
            f_high = ltb-false 57 f t₁.1;
            f_low = ltb-false f 48 t₂.1;
            e_high = ltb-false 57 e t₃.1;
            e_low = ltb-false e 48 t₄.1;
            d_high = ltb-false 57 d t₅.1;
            d_low = ltb-false d 48 t₆.1;
            c_high = ltb-false 57 c t₇.1;
            c_low = ltb-false c 48 t₈.1;
            b_high = ltb-false 57 b t₉.1;
            b_low = ltb-false b 48 u₁.1;
            a_high = ltb-false 57 a u₂.1;
            a_low = ltb-false a 48 u₃.1;
          };
    }

next_byte : (s : List ℕ) (i j b : ℕ) → j ≡ i + 1 → i < length s → b ≡ get_or s i 0 → drop i s ≡ b ∷ drop j s
next_byte s i j b k h e = rw k (here s i b h e)

step : (v b : ℕ) (s : List ℕ) → 48 ≤ b → b ≤ 57 → digits_from v (b ∷ s) ≡ digits_from (v * 10 + (b - 48)) s
unfolding digits_from is_digit
step v b s l h = rw (le-leb 48 b l, le-leb b 57 h)

three : (v a b c : ℕ) → 48 ≤ a → 48 ≤ b → 48 ≤ c → ((v * 10 + (a - 48)) * 10 + (b - 48)) * 10 + (c - 48) + 5328 ≡ v * 1000 + (a * 100 + b * 10 + c)
three v a b c p q r = omega arith

halves : (x t w a b c d e f : ℕ) → Six a b c d e f → t + 5328 ≡ x * 1000 + (a * 100 + b * 10 + c) → w + 5328 ≡ t * 1000 + (d * 100 + e * 10 + f)
    → w ≡ x * 1000000 + six_of a b c d e f
unfolding six_of
halves x t w a b c d e f h p q = omega (arith, h)

sum : (x a b c d e f : ℕ) → Six a b c d e f
    → (((((x * 10 + (a - 48)) * 10 + (b - 48)) * 10 + (c - 48)) * 10 + (d - 48)) * 10 + (e - 48)) * 10 + (f - 48) ≡ x * 1000000 + six_of a b c d e f
sum x a b c d e f h = halves x _ _ a b c d e f h (three x a b c h.a_low h.b_low h.c_low) (three _ d e f h.d_low h.e_low h.f_low)

pub six_below : (a b c d e f : ℕ) → Six a b c d e f → six_of a b c d e f < 1000000
unfolding six_of
six_below a b c d e f h = omega (arith, h)

six_read : (x a b c d e f : ℕ) → Six a b c d e f → digits_from x (a ∷ b ∷ c ∷ d ∷ e ∷ f ∷ []) ≡ Some (x * 1000000 + six_of a b c d e f)
unfolding digits_from
six_read x a b c d e f h =
    step x a (b ∷ c ∷ d ∷ e ∷ f ∷ []) h.a_low h.a_high
    ∙ step _ b (c ∷ d ∷ e ∷ f ∷ []) h.b_low h.b_high
    ∙ step _ c (d ∷ e ∷ f ∷ []) h.c_low h.c_high
    ∙ step _ d (e ∷ f ∷ []) h.d_low h.d_high
    ∙ step _ e (f ∷ []) h.e_low h.e_high
    ∙ step _ f [] h.f_low h.f_high
    ∙ ap Some (sum x a b c d e f h)

module _ (s : List ℕ) (at : ℕ) {p a b c d e f : ℕ} (h : at + 7 ≤ length s)
    (ep : p ≡ get_or s at 0) (ea : a ≡ get_or s (at + 1) 0) (eb : b ≡ get_or s (at + 2) 0) (ec : c ≡ get_or s (at + 3) 0)
    (ed : d ≡ get_or s (at + 4) 0) (ee : e ≡ get_or s (at + 5) 0) (ef : f ≡ get_or s (at + 6) 0) where
  bytes : drop at s ≡ p ∷ a ∷ b ∷ c ∷ d ∷ e ∷ f ∷ drop (at + 7) s
  bytes =
      next_byte s at (at + 1) p refl (omega arith) ep
      ∙ rw (next_byte s (at + 1) (at + 2) a (omega arith) (omega arith) ea)
      (rw (next_byte s (at + 2) (at + 3) b (omega arith) (omega arith) eb)
      (rw (next_byte s (at + 3) (at + 4) c (omega arith) (omega arith) ec)
      (rw (next_byte s (at + 4) (at + 5) d (omega arith) (omega arith) ed)
      (rw (next_byte s (at + 5) (at + 6) e (omega arith) (omega arith) ee)
      (rw (next_byte s (at + 6) (at + 7) f (omega arith) (omega arith) ef) refl)))))

  pub micros_here : (v : ℕ) → Point p a b c d e f → v ≡ six_of a b c d e f → Micros s at v
  micros_here v t q =
      record {
        word = a ∷ b ∷ c ∷ d ∷ e ∷ f ∷ [];
        is = bytes ∙ rw t.is_point;
        long = refl;
        reads = λ x. rw q (six_read x a b c d e f t.digits);
        below = rw q (six_below a b c d e f t.digits);
      }
