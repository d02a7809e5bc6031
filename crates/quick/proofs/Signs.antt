-- A size behind its sign.
use Rattle.std.specs.Prelude.{Option, Some, None}
use Prim.Native.Nat.{ℕ, zero, suc, ◌+◌, ◌≤◌, ◌<◌}
use mathlib.Core.Path.{◌≡◌, refl, sym, ap, subst, ◌∙◌}
use mathlib.Core.List.{List, [], ◌∷◌, ◌++◌}
use mathlib.Core.Bool.{Bool, true, false}
use native.Mathlib.Omega.{arith}
use native.Mathlib.Nat.{add-zero}
use lib.ListN.{length, get_or, drop}
use lib.Seq.{get_or-drop}
use lib.IntN.{pos, neg_ℤ}
use lib.Dec.{eqb}
use borrow.Author.Tests.{ne_eqb, eqb-true, eqb-false}
use Rattle.paper.specs.Forms.{has_minus, signed, behind_sign}
use Rattle.forms.specs.Sizes.{AtMost}
use Rattle.quick.specs.Words.{SizeAt, NumberAt, start_at, Within, signed_by}
use Rattle.quick.proofs.Runs.{here}

pub within : (size : List ℕ → Option ℕ) → ((s : List ℕ) → AtMost 999999999999999 (size s)) → (most : ℕ) (s : List ℕ) (at : ℕ) (z : Option (ℕ × ℕ)) → SizeAt size most s at z → Within z
unfolding SizeAt Within AtMost
within size b most s at (Some (v, end)) t = b t.word v t.reads
within size b most s at None t = tt

module _ (size : List ℕ → Option ℕ) (most : ℕ) (s : List ℕ) (at : ℕ) where
  pub behind_minus : (z : Option (ℕ × ℕ)) → at < length s → get_or s at 0 ≡ 45 → SizeAt size most s (at + 1) z → NumberAt (behind_sign size) (most + 1) s at (signed_by true z)
  unfolding SizeAt NumberAt signed_by behind_sign has_minus signed
  behind_minus None h e t = tt
  behind_minus (Some (zero, end)) h e t = tt
  behind_minus (Some (suc n, end)) h e t =
      record {
        word = 45 ∷ t.word;
        is = here s at 45 h (sym e) ∙ ap (λ (l : List ℕ). 45 ∷ l) t.is;
        reads = rw t.reads;
        long = omega (arith, t.long);
        few = omega (arith, t.few);
      }

  no_minus : (w r : List ℕ) → (get_or s at 0 ≡ 45 → ⊥) → drop at s ≡ w ++ r → has_minus w ≡ false
  unfolding has_minus
  no_minus [] r h e = refl
  no_minus (b ∷ w) r h e = ne_eqb b 45 (λ q. h (sym (rw add-zero at (get_or-drop at s 0 0)) ∙ ap (λ (l : List ℕ). get_or l 0 0) e ∙ q))

  pub behind_none : (z : Option (ℕ × ℕ)) → (get_or s at 0 ≡ 45 → ⊥) → SizeAt size most s at z → NumberAt (behind_sign size) (most + 1) s at (signed_by false z)
  unfolding SizeAt NumberAt signed_by behind_sign signed
  behind_none None h t = tt
  behind_none (Some (n, end)) h t =
      record {
        word = t.word;
        is = t.is;
        reads = rw (no_minus t.word (drop end s) h t.is, t.reads);
        long = t.long;
        few = omega (arith, t.few);
      }

  -- the sign is tested, and the size starts behind it
  pub signed_here : (minus : Bool) (from : ℕ) (z : Option (ℕ × ℕ)) → at < length s → minus ≡ eqb (get_or s at 0) 45 → from ≡ start_at minus at
      → SizeAt size most s from z → NumberAt (behind_sign size) (most + 1) s at (signed_by minus z)
  unfolding start_at
  signed_here true from z h m f t = behind_minus z h (eqb-true (get_or s at 0) 45 (sym m)) (subst (λ (i : ℕ). SizeAt size most s i z) f t)
  signed_here false from z h m f t = behind_none z (eqb-false (get_or s at 0) 45 (sym m)) (subst (λ (i : ℕ). SizeAt size most s i z) f t)

pub started : (t : Bool) (at from : ℕ) → from ≡ start_at t at → from ≤ at + 1
unfolding start_at
started true at from e = omega arith
started false at from e = omega arith

pub minus_of : (n end : ℕ) → (n ≡ 0 → ⊥) → signed_by true (Some (n, end)) ≡ Some (neg_ℤ (pos n), end)
unfolding signed_by
minus_of zero end h = absurd (h refl)
minus_of (suc n) end h = refl

pub fits_within : (z : Option (ℕ × ℕ)) → Within z → (v end : ℕ) → z ≡ Some (v, end) → v ≤ 999999999999999
unfolding Within
fits_within z w v end e = subst Within e w

pub no_size : (minus : Bool) → None ≡ signed_by minus None
unfolding signed_by
no_size true = refl
no_size false = refl
