-- The turn of the loop that fills the latencies: those before place i stand, and the bytes from 4 * i on give the others.
use Prim.Native.Nat.{ℕ, ◌+◌, ◌*◌, ◌≤◌, ◌<◌}
use mathlib.Core.Path.{◌≡◌, refl, sym, ◌∙◌}
use mathlib.Core.List.{List, ◌∷◌, ◌++◌, append_assoc, append-nil}
use native.Mathlib.Omega.{arith}
use native.Mathlib.Numerals.{add-one}
use lib.ListN.{length, take, drop, get_or, set, length-set, drop_of_length-le}
use lib.Seq.{drop-cons, take-suc-set, take_all}
use Rattle.table.specs.Table.{low_first, latencies_of, latency_at}

next : (s : List ℕ) (at then : ℕ) → then ≡ at + 1 → at < length s → drop at s ≡ get_or s at 0 ∷ drop then s
next s at then e h = rw (e, add-one) (drop-cons s at 0 h)

four : (a b c d : ℕ) (rest : List ℕ) → latencies_of (a ∷ b ∷ c ∷ d ∷ rest) ≡ low_first a b c d ∷ latencies_of rest
unfolding latencies_of
four a b c d rest = refl

-- the bytes from a place on begin with the latency that starts there
first : (s : List ℕ) (at : ℕ) → at + 3 < length s → latencies_of (drop at s) ≡ latency_at s at ∷ latencies_of (drop (at + 4) s)
first s at h =
    let p = next s at (at + 1) (omega arith) (omega arith) in
    let q = next s (at + 1) (at + 2) (omega arith) (omega arith) in
    let r = next s (at + 2) (at + 3) (omega arith) (omega arith) in
    let t = next s (at + 3) (at + 4) (omega arith) (omega arith) in
    rw (p, q, r, t) (four _ _ _ _ _)

-- the latencies before place i stand
pub record Filled (s l : List ℕ) (i : ℕ) : Type 0 where
  pub long : length s ≡ 4 * length l
  pub is : latencies_of s ≡ take i l ++ latencies_of (drop (4 * i) s)

module _ {s l : List ℕ} {i : ℕ} (filled : Filled s l i) where
  pub turn : i < length l → {n : ℕ} → n ≡ latency_at s (4 * i) → Filled s (set l i n) (i + 1)
  turn h {n} e =
      let four_on : 4 * (i + 1) ≡ 4 * i + 4 = omega arith in
      let room : 4 * i + 3 < length s = (let long = filled.long in omega arith) in
      record {
        long = simp length-set filled.long;
        is = filled.is ∙ rw (four_on, first s (4 * i) room, ← e, add-one i, take-suc-set l i n h, append_assoc);
      }

  pub end : length l ≤ i → l ≡ latencies_of s
  unfolding latencies_of
  end h =
      let read : length s ≤ 4 * i = (let long = filled.long in omega arith) in
      sym (filled.is ∙ rw (take_all i l h, drop_of_length-le s read) (append-nil l))
