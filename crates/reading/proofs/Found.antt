-- The first line from a place on: by the place, and where its LF was searched for.
use Prim.Native.Nat.{ℕ, suc, ◌+◌, ◌-◌, ◌≤◌, ◌<◌}
use mathlib.Core.Path.{◌≡◌, refl, ◌∙◌}
use mathlib.Core.Bool.{Bool, true, false}
use mathlib.Core.List.{List}
use native.Mathlib.Numerals.{add-one}
use native.Mathlib.Nat.{add-suc}
use native.Mathlib.Omega.{arith}
use lib.ListN.{length, take, drop, length-drop}
use lib.Seq.{take_all, drop-drop, length-take-le}
use lib.Dec.{ltb}
use borrow.Author.Tests.{ltb-true, ltb-false}
use Rattle.octets.specs.Octets.{index_of}
use Rattle.paper.specs.Reading.{unended, ended, lines_of}
use Rattle.reading.specs.Places.{line_at, next_line}
use Rattle.reading.specs.Joined.{AllEnded}
use Rattle.reading.proofs.Fields.{index_within}
use Rattle.reading.proofs.Lines.{first_line, no_line}

-- an LF from here on
module _ (s : List ℕ) (at : ℕ) (near : next_line s at ≤ length s) where
  pub ended_at : lines_of (drop at s) ≡ ended (line_at s at) (lines_of (drop (next_line s at) s))
  unfolding line_at next_line
  ended_at =
      let on : drop (suc (index_of 10 (drop at s))) (drop at s) ≡ drop (at + index_of 10 (drop at s) + 1) s =
      rw (add-one, ← add-suc) (drop-drop (suc (index_of 10 (drop at s))) at s) in
      first_line (drop at s) (simp length-drop (omega arith)) ∙ rw on

  pub next_at : at + length (line_at s at) + 1 ≡ next_line s at
  unfolding line_at next_line
  next_at = rw (length-take-le (index_of 10 (drop at s)) (drop at s) (simp length-drop (omega arith)))

-- where every line has its LF, there is one from every place on that is not the end
pub near_ended : (s : List ℕ) (at : ℕ) → at < length s → AllEnded (lines_of (drop at s)) → next_line s at ≤ length s
unfolding next_line AllEnded
near_ended s at some_left all = go (ltb (index_of 10 (drop at s)) (length (drop at s))) refl
  where
    long : length (drop at s) ≡ length s - at
    long = length-drop at s

    go : (t : Bool) → ltb (index_of 10 (drop at s)) (length (drop at s)) ≡ t → at + index_of 10 (drop at s) + 1 ≤ length s
    go true e = omega (arith, ltb-true (index_of 10 (drop at s)) (length (drop at s)) e, long)
    go false e =
        let none : index_of 10 (drop at s) ≡ length (drop at s) = omega (arith, ltb-false (index_of 10 (drop at s)) (length (drop at s)) e, index_within 10 (drop at s)) in
        let some : 0 < length (drop at s) = omega (arith, long) in
        absurd (rw (no_line (drop at s) some none) at all)

module _ (s : List ℕ) (at end : ℕ) (found : end ≡ at + index_of 10 (drop at s)) where
  pub found_at : end ≡ at + index_of 10 (drop at s)
  found_at = found

  -- no LF up to the end
  pub unended_here : at < length s → end ≡ length s → lines_of (drop at s) ≡ unended (take (end - at) (drop at s))
  unended_here h e =
      let all : take (end - at) (drop at s) ≡ drop at s = take_all (end - at) (drop at s) (simp length-drop (omega arith)) in
      rw all (no_line (drop at s) (simp length-drop (omega arith)) (simp length-drop (omega (arith, found_at))))

  -- an LF at `end`
  pub line_here : take (end - at) (drop at s) ≡ line_at s at
  unfolding line_at
  line_here = let e : end - at ≡ index_of 10 (drop at s) = omega (arith, found_at) in rw e

  pub next_here : end + 1 ≡ next_line s at
  unfolding next_line
  next_here = rw found_at

  pub ended_here : (end ≡ length s → ⊥) → end ≤ length s → lines_of (drop at s) ≡ ended (take (end - at) (drop at s)) (lines_of (drop (end + 1) s))
  ended_here is-line within = rw (line_here, next_here) (ended_at s at (omega (arith, next_here)))
