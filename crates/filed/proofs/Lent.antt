-- The answer does not depend on what stood in the lent times and in the lent room, only on their lengths.
use Prim.Native.Nat.{ℕ}
use mathlib.Core.Path.{◌≡◌, refl, sym, ◌∙◌}
use mathlib.Core.Bool.{Bool, true, false, cond}
use mathlib.Core.List.{List}
use lib.ListN.{length, length-replicate}
use lib.IntN.{ℤ, pos}
use lib.Dec.{ltb}
use Rattle.paper.specs.Columns.{nowhere}
use Rattle.paper.specs.declared.Asked.{Asked}
use Rattle.paper.specs.declared.Fault.TheVariants as Fault
use Rattle.paper.specs.Answer.{Inputs, Outcome, Found, Reached, stopped, found, given, reach, refused, accepted, written, on_written, conclude, judge}
use Rattle.filed.specs.Filed.{lent_times, lent_room, answer_of}
use Rattle.filed.specs.Judged.{JudgedInto}
use Rattle.filed.proofs.Room.{told_within}

module _ (trace latencies : List ℕ) (asked : Asked) (wanted : Bool) where
  abbrev on : List ℤ → List ℕ → Inputs
  on times room = record { trace = trace; latencies = latencies; asked = asked; times = times; wanted = wanted; room = room }

  module _ (times times' : List ℤ) (room room' : List ℕ) (long : length times ≡ length times') (wide : length room ≡ length room') where
    ends : (f : Found) (bytes : List ℕ) (t : Bool)
        → (cond t (refused (on times room) Fault.NoRoom nowhere) (accepted (on times room) f bytes)).answer
        ≡ (cond t (refused (on times' room') Fault.NoRoom nowhere) (accepted (on times' room') f bytes)).answer
    unfolding refused accepted
    ends f bytes true = refl
    ends f bytes false = refl

    concludes : (x : Reached) → (conclude (on times room) x).answer ≡ (conclude (on times' room') x).answer
    unfolding conclude on_written refused written
    concludes (stopped fault site) = refl
    concludes (found f) =
        let bytes = written (on times room) f.choice f.times in rw (← wide) (ends f bytes (ltb (length room) (length bytes)))

    reaches : (places : ℕ) → length times ≡ places
        → reach (given (on times room)) ≡ reach (record { trace = trace; latencies = latencies; asked = asked; places = places })
    reaches places e = rw e

    pub same_answer : (judge (on times room)).answer ≡ (judge (on times' room')).answer
    unfolding judge
    same_answer = rw (reaches (length times') long) (concludes (reach (given (on times' room'))))

-- so it is the one of the definition
is_answer : (asked : Asked) (wanted : Bool) (trace latencies : List ℕ) (times : List ℤ) (room : List ℕ)
    → length times ≡ 2048
    → length room ≡ 65536
    → (judge (on trace latencies asked wanted times room)).answer ≡ answer_of asked wanted trace latencies
unfolding answer_of lent_times lent_room
is_answer asked wanted trace latencies times room p q =
    same_answer trace latencies asked wanted times lent_times room lent_room
    (p ∙ sym (length-replicate 2048 (pos 0)))
    (q ∙ sym (length-replicate {A = ℕ} 65536 0))

-- and what it says was written counts within the room
pub judges_into : (asked : Asked) (wanted : Bool) (trace latencies : List ℕ) (times : List ℤ) (room : List ℕ) (o : Outcome)
    → o ≡ judge (on trace latencies asked wanted times room)
    → length times ≡ 2048
    → length room ≡ 65536
    → length o.room ≡ length room
    → JudgedInto asked wanted trace latencies o.answer o.room
judges_into asked wanted trace latencies times room o e p q long =
    record { is = rw e (is_answer asked wanted trace latencies times room p q); counts = told_within _ o e o.room long }
