-- The written trace is never longer than the room that was lent for it, so that the part of the room that goes to the file is there.
use Prim.Native.Nat.{ℕ, ◌≤◌}
use mathlib.Core.Path.{◌≡◌, refl, sym}
use mathlib.Core.Bool.{Bool, true, false, cond}
use mathlib.Core.List.{List}
use native.Mathlib.Omega.{arith}
use lib.Seq.{length-take-le}
use lib.ListN.{length, take}
use lib.Dec.{ltb}
use borrow.Author.Tests.{ltb-false}
use Rattle.paper.specs.Columns.{nowhere}
use Rattle.paper.specs.declared.Fault.TheVariants as Fault
use Rattle.paper.specs.Answer.{Inputs, Outcome, Reached, stopped, found, given, reach, refused, accepted, written, on_written, conclude, judge}

within : (i : Inputs) (x : Reached) → (conclude i x).answer.written ≤ length i.room
unfolding conclude on_written refused accepted
within i (stopped fault site) = omega arith
within i (found f) = go (written i f.choice f.times)
  where
    go : (bytes : List ℕ) → (cond (ltb (length i.room) (length bytes)) (refused i Fault.NoRoom nowhere) (accepted i f bytes)).answer.written ≤ length i.room
    go bytes = by (ltb (length i.room) (length bytes)) refl
      where
        by : (t : Bool) → ltb (length i.room) (length bytes) ≡ t → (cond t (refused i Fault.NoRoom nowhere) (accepted i f bytes)).answer.written ≤ length i.room
        by true e = omega arith
        by false e = ltb-false (length i.room) (length bytes) e

-- so whatever a call comes to counts within the room afterwards
pub told_within : (i : Inputs) (o : Outcome) → o ≡ judge i → (room : List ℕ) → length room ≡ length i.room
    → (o.answer.written ≤ length room) × (o.answer.written ≡ length (take o.answer.written room))
unfolding judge
told_within i o e room long =
    let h : o.answer.written ≤ length room = rw (long, e) (within i (reach (given i))) in (h, sym (length-take-le o.answer.written room h))
