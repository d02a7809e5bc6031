-- The end of a line that is not read to it.
use Rattle.std.specs.Prelude.{Some}
use Prim.Native.Nat.{ℕ, zero, suc, ◌+◌, ◌≤◌, ◌<◌}
use mathlib.Core.Path.{◌≡◌, refl, sym, ◌∙◌}
use mathlib.Core.List.{List}
use mathlib.Core.Bool.{true, false}
use native.Mathlib.Omega.{arith}
use lib.ListN.{length, get_or, take, drop, length-drop}
use lib.Seq.{length-take-le}
use borrow.Author.Tests.{lt-ltb}
use Rattle.octets.specs.Octets.{index_of}
use Rattle.paper.specs.Line.{good_end}
use Rattle.reading.specs.Places.{line_at, next_line}
use Rattle.reading.specs.Rests.{fields_from, end_from}
use Rattle.reading.proofs.Found.{found_at}
use Rattle.tail.specs.Ends.{EndsAt, Clear}
use Rattle.tail.proofs.Clears.{clear_byte}

pub ended_here : (s : List ℕ) (at n : ℕ) → n ≡ 0 → EndsAt s true at n (Some at)
unfolding EndsAt fields_from end_from good_end
ended_here s at zero e = record { is = refl; ends = refl; near = λ k. k }
ended_here s at (suc n) e = absurd (omega arith)

module _ (s : List ℕ) (at i end : ℕ) (clear : Clear s at i) (found : end ≡ i + index_of 10 (drop i s)) where
  place : end ≡ at + index_of 10 (drop at s)
  place = found_at s i end found ∙ sym clear.index

  pub end_here : (n : ℕ) → (n ≡ 0 → ⊥) → at < length s → (get_or s at 0 ≡ 10 → ⊥) → end ≤ length s → (end ≡ length s → ⊥)
      → EndsAt s false at n (Some (end + 1))
  unfolding EndsAt fields_from end_from good_end next_line line_at
  end_here zero z h e within is-line = absurd (z refl)
  end_here (suc n) z h e within is-line =
      let first = (clear_byte s at h e).index in
      let long : length (take (index_of 10 (drop at s)) (drop at s)) ≡ index_of 10 (drop at s) =
      length-take-le _ (drop at s) (simp length-drop (omega (arith, place))) in
      record {
        is = sym (lt-ltb 0 (length (take (index_of 10 (drop at s)) (drop at s))) (rw long (omega (arith, first))));
        ends = omega (arith, place);
        near = λ k. omega arith;
      }
