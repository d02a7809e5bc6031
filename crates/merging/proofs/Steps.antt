-- One step: the line at the head of a trace, and what is merged where it goes.
use Prim.Native.Nat.{ℕ, suc, ◌+◌, ◌-◌, ◌≤◌, ◌<◌}
use native.Mathlib.Omega.{arith}
use mathlib.Core.Path.{◌≡◌, refl, sym, ap, ◌∙◌}
use mathlib.Core.Bool.{Bool, true, false, cond}
use mathlib.Core.List.{List, [], ◌∷◌, ◌++◌, append_assoc}
use lib.ListN.{length, take, drop, length-drop}
use lib.Seq.{sets, take_all, length-take-le}
use lib.Signed.{le_z}
use borrow.Author.Tests.{le-leb, leb-true}
use lib.Dec.{leb}
use Rattle.octets.specs.Octets.{index_of}
use Rattle.paper.specs.Reading.{lines_of}
use Rattle.paper.specs.Merging.{stamp_of, merged_lines, bytes_in, merged_bytes}
use Rattle.reading.specs.Joined.{AllEnded}
use Rattle.reading.specs.Places.{line_at, next_line}
use Rattle.reading.proofs.Fields.{split_first}
use Rattle.reading.proofs.Found.{ended_at, near_ended}
use Rattle.heads.specs.Heads.{end_in, HeadAt}
use Rattle.heads.specs.declared.Head.{Head}
use Rattle.merging.specs.Weave.{Fits, Within, part_of, chosen, rest_put}

-- ---- a line with its LF

take_past : (b : ℕ) (f r : List ℕ) → take (suc (length f)) (f ++ (b ∷ r)) ≡ f ++ (b ∷ [])
take_past b [] r = refl
take_past b (x ∷ f) r = ap (λ (l : List ℕ). x ∷ l) (take_past b f r)

line_bytes : (s : List ℕ) (at : ℕ) → next_line s at ≤ length s → take (next_line s at - at) (drop at s) ≡ line_at s at ++ (10 ∷ [])
unfolding next_line line_at
line_bytes s at near =
    let d = drop at s in
    let here : index_of 10 d < length d = simp length-drop (omega (arith, near)) in
    let long : length (take (index_of 10 d) d) ≡ index_of 10 d = length-take-le (index_of 10 d) d (omega (arith, here)) in
    let many : at + index_of 10 d + 1 - at ≡ suc (length (take (index_of 10 d) d)) = omega (arith, long) in
    rw many (ap (take (suc (length (take (index_of 10 d) d)))) (split_first 10 d here) ∙ take_past 10 (take (index_of 10 d) d) _)

-- ---- the head of a trace

head_within : {s : List ℕ} {h : Head} → HeadAt s h.from h → h.from ≤ length s → Within s h
unfolding end_in next_line
head_within {s} {h} head inside = go (leb (next_line s h.from) (length s)) refl head.to
  where
    go : (t : Bool) → leb (next_line s h.from) (length s) ≡ t → h.to ≡ cond t (next_line s h.from) (length s) → Within s h
    go true e is = record { low = omega (arith, is); high = omega (arith, is, leb-true (next_line s h.from) (length s) e) }
    go false e is = record { low = omega (arith, is, inside); high = omega (arith, is) }

-- a head that is a line with its LF, and where every line behind it has one
pub record Line (s : List ℕ) (h : Head) : Type 0 where
  pub near : next_line s h.from ≤ length s
  pub ends : h.to ≡ next_line s h.from
  pub further : h.from < h.to
  pub within : Within s h
  pub bytes : part_of s h ≡ line_at s h.from ++ (10 ∷ [])
  pub stamped : h.time ≡ stamp_of (line_at s h.from)
  pub later : AllEnded (lines_of (drop h.to s))

pub head_line : {s : List ℕ} {h : Head} → HeadAt s h.from h → h.from < length s → AllEnded (lines_of (drop h.from s)) → Line s h
unfolding end_in AllEnded
head_line {s} {h} head some_left all =
    let near = near_ended s h.from some_left all in
    let ends : h.to ≡ next_line s h.from = head.to ∙ rw (le-leb (next_line s h.from) (length s) near) in
    record {
      near = near;
      ends = ends;
      further = rw ends (unfold next_line in omega arith);
      within = head_within head (omega arith);
      bytes = rw ends (line_bytes s h.from near);
      stamped = head.time;
      later = rw ends (rw (ended_at s h.from near) at all);
    }

-- ---- what is merged, where both have a line

module _ {s t : List ℕ} {a b : Head} (la : Line s a) (lb : Line t b) where
  pub first_next : true ≡ le_z a.time b.time
      → merged_bytes (drop a.from s) (drop b.from t) ≡ part_of s a ++ merged_bytes (drop a.to s) (drop b.from t)
  unfolding merged_bytes merged_lines bytes_in
  first_next e =
      let order : le_z (stamp_of (line_at s a.from)) (stamp_of (line_at t b.from)) ≡ true = rw (la.stamped, lb.stamped) at (sym e) in
      rw (la.bytes, la.ends, ended_at s a.from la.near, ended_at t b.from lb.near, order, append_assoc)

  pub second_next : false ≡ le_z a.time b.time
      → merged_bytes (drop a.from s) (drop b.from t) ≡ part_of t b ++ merged_bytes (drop a.from s) (drop b.to t)
  unfolding merged_bytes merged_lines bytes_in
  second_next e =
      let order : le_z (stamp_of (line_at s a.from)) (stamp_of (line_at t b.from)) ≡ false = rw (la.stamped, lb.stamped) at (sym e) in
      rw (lb.bytes, lb.ends, ended_at s a.from la.near, ended_at t b.from lb.near, order, append_assoc)

-- ---- the room

pub part_long : {s : List ℕ} {h : Head} → Within s h → length (part_of s h) ≡ h.to - h.from
part_long {s} {h} w = length-take-le (h.to - h.from) (drop h.from s) (simp length-drop (omega (arith, w.low, w.high)))

-- a line has its place behind as many bytes as both traces have before their heads
pub line_fits : (room : List ℕ) {first second : List ℕ} {a b : Head} → Within first a → Within second b → Fits first second room
    → a.from + b.from + length (chosen first second a b) ≤ length room
unfolding chosen
line_fits room {first} {second} {a} {b} wa wb fits = go (le_z a.time b.time)
  where
    go : (t : Bool) → a.from + b.from + length (cond t (part_of first a) (part_of second b)) ≤ length room
    go true = omega (arith, part_long wa, wa.low, wa.high, wb.low, wb.high, fits)
    go false = omega (arith, part_long wb, wa.low, wa.high, wb.low, wb.high, fits)

-- the rest of a trace, lent from a place on
pub rest_is : (s : List ℕ) (at : ℕ) → take (length s - at) (drop at s) ≡ drop at s
rest_is s at = take_all (length s - at) (drop at s) (simp length-drop (omega arith))

pub rest_put_lem : (first second room : List ℕ) (at by : ℕ) {room₁ room₂ : List ℕ} → room₁ ≡ sets room (at + by) (take (length first - at) (drop at first))
    → room₂ ≡ sets room₁ (length first + by) (take (length second - by) (drop by second)) → room₂ ≡ rest_put first second at by room
unfolding rest_put
rest_put_lem first second room at by p q = q ∙ rw (p, rest_is first at, rest_is second by)
