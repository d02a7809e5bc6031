-- The turn of the loop that writes a table's bytes: those before place 4 * i stand, and the latencies from i on give the others.
use Prim.Native.Nat.{ℕ, ◌+◌, ◌-◌, ◌*◌, ◌≤◌, ◌<◌}
use mathlib.Core.Path.{◌≡◌, sym, ◌∙◌}
use mathlib.Core.List.{List, [], ◌++◌, append_assoc, append-nil}
use native.Mathlib.Omega.{arith}
use native.Mathlib.Numerals.{add-one}
use lib.ListN.{length, take, drop, get_or, length-append, drop_of_length-le}
use lib.Seq.{drop-cons, drop-drop, sets, sets-eq, take_all, take_at, length-take-le}
use Rattle.table.specs.Table.{four_bytes, bytes_for}

-- a latency's bytes copied into the part of the room from `at` on, which then comes back
pub stored : (s part : List ℕ) (at n : ℕ) → at + 3 < length s → part ≡ four_bytes n [] → take at s ++ (part ++ drop (at + 4 - at) (drop at s)) ≡ sets s at (four_bytes n [])
stored s part at n h e =
    let four : at + 4 - at ≡ 4 = omega arith in
    let room : at + length (four_bytes n []) ≤ length s = omega arith in
    rw (four, e, drop-drop, sets-eq (four_bytes n []) s at room) (sym (append_assoc (take at s) (four_bytes n []) (drop (at + 4) s)))

-- the stores of one latency's bytes, as far as they reach
front : (s : List ℕ) (at : ℕ) (four : List ℕ) → at + length four ≤ length s → take (at + length four) (sets s at four) ≡ take at s ++ four
front s at four h =
    let long : length (take at s ++ four) ≡ at + length four = rw (length-append, length-take-le at s (omega arith)) in
    rw (sets-eq four s at h) (take_at (take at s ++ four) (drop (at + length four) s) (at + length four) long)

-- the latencies from a place on begin with the bytes of the one that stands there
first : (l : List ℕ) (i : ℕ) → i < length l → bytes_for (drop i l) ≡ four_bytes (get_or l i 0) (bytes_for (drop (i + 1) l))
unfolding bytes_for
first l i h = rw (drop-cons l i 0 h, add-one)

-- the bytes before place 4 * i stand
pub record Spread (l s : List ℕ) (i : ℕ) : Type 0 where
  pub long : length s ≡ 4 * length l
  pub is : bytes_for l ≡ take (4 * i) s ++ bytes_for (drop i l)

module _ {l s : List ℕ} {i : ℕ} (spread : Spread l s i) where
  pub turn : i < length l → {n : ℕ} {after : List ℕ} → n ≡ get_or l i 0 → length after ≡ length s → after ≡ sets s (4 * i) (four_bytes n []) → Spread l after (i + 1)
  turn h {n} {after} e same put =
      let four_on : 4 * (i + 1) ≡ 4 * i + 4 = omega arith in
      let room : 4 * i + 4 ≤ length s = (let long = spread.long in omega arith) in
      record {
        long = same ∙ spread.long;
        is = spread.is ∙ rw (four_on, first l i h, ← e, put, front s (4 * i) (four_bytes n []) room, append_assoc);
      }

  pub end : length l ≤ i → s ≡ bytes_for l
  unfolding bytes_for
  end h =
      let written : length s ≤ 4 * i = (let long = spread.long in omega arith) in
      sym (spread.is ∙ rw (take_all (4 * i) s written, drop_of_length-le l h) (append-nil s))
