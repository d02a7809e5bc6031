-- Bytes without an LF stepped over.
use Prim.Native.Nat.{ℕ, ◌+◌, ◌≤◌, ◌<◌}
use mathlib.Core.Path.{◌≡◌, refl, ◌∙◌}
use mathlib.Core.List.{List}
use mathlib.Core.Bool.{Bool, true, false, ◌||◌}
use native.Mathlib.Numerals.{add-one}
use native.Mathlib.Omega.{arith}
use lib.ListN.{length, get_or}
use lib.Seq.{drop-cons}
use lib.Dec.{eqb}
use borrow.Author.Tests.{ne_eqb, eqb-false}
use Rattle.octets.specs.Octets.{index_of}
use Rattle.tail.specs.Ends.{Clear}

pub clear_none : (s : List ℕ) (at : ℕ) → at ≤ length s → Clear s at at
clear_none s at h = record { index = refl; low = omega arith; high = h }

pub clear_on : (s : List ℕ) {at i to : ℕ} → Clear s at i → Clear s i to → Clear s at to
clear_on s a b = record { index = a.index ∙ b.index; low = omega (arith, a.low, b.low); high = b.high }

pub clear_byte : (s : List ℕ) (i : ℕ) → i < length s → (get_or s i 0 ≡ 10 → ⊥) → Clear s i (i + 1)
unfolding index_of
clear_byte s i h e =
    record {
      index = rw (drop-cons s i 0 h, add-one, ne_eqb (get_or s i 0) 10 e) (omega arith);
      low = omega arith;
      high = omega arith;
    }

-- a hit stays a hit
pub clear_more : (s : List ℕ) (at j : ℕ) (hit : Bool) → at + j < length s → (hit ≡ false → Clear s at (at + j))
    → (hit || eqb (get_or s (at + j) 0) 10) ≡ false → Clear s at (at + (j + 1))
clear_more s at j true h so e = absurd (let q : ◌≡◌ {A = ℕ} 0 1 = cc in omega arith)
clear_more s at j false h so e =
    let k : at + (j + 1) ≡ at + j + 1 = omega arith in
    rw k (clear_on s (so refl) (clear_byte s (at + j) h (eqb-false _ 10 e)))
