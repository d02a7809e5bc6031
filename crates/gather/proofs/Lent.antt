-- What a merging comes to does not depend on what stood in the lent room, only on its length; and it never says that more was written than
-- the room holds, so that the part of the room that goes to the file is there.
use Rattle.std.specs.Prelude.{Option, Result, Some, None, Ok, Err}
use Prim.Native.Nat.{ℕ, ◌≤◌}
use mathlib.Core.Path.{◌≡◌, refl, sym, ◌∙◌}
use mathlib.Core.Bool.{Bool, true, false, cond}
use mathlib.Core.List.{List}
use native.Mathlib.Omega.{arith}
use lib.ListN.{length, length-replicate}
use lib.Seq.{length-take-le}
use lib.Dec.{ltb}
use borrow.Author.Tests.{ltb-false}
use Rattle.paper.specs.Answer.{choice_of}
use Rattle.paper.specs.Columns.{nowhere}
use Rattle.paper.specs.Merging.{Merging, Mergence, unmerged, joined, merged_bytes, both_of, on_merged, on_both, on_heard, join, merged_of}
use Rattle.paper.specs.declared.Choice.{Choice}
use Rattle.paper.specs.declared.Fault.TheVariants as Fault
use Rattle.paper.specs.declared.Tally.{Tally}
use Rattle.paper.specs.declared.Which.TheVariants.{Neither}
use Rattle.gather.specs.Program.{lent_room, joint_of}
use Rattle.gather.specs.Joined.{JoinedInto}
use Rattle.paper.specs.declared.Unmerged.{Unmerged}

-- ---- another room of that length

module _ (choice : ℕ) (first second : List ℕ) where
  abbrev on : List ℕ → Merging
  on room = record { first = first; second = second; choice = choice; room = room }

  module _ (room room' : List ℕ) (wide : length room ≡ length room') where
    ends : (a b : Tally) (bytes : List ℕ) (t : Bool)
        → (cond t (unmerged (on room) Fault.NoRoom Neither nowhere) (joined (on room) a b bytes)).joint
        ≡ (cond t (unmerged (on room') Fault.NoRoom Neither nowhere) (joined (on room') a b bytes)).joint
    unfolding unmerged joined
    ends a b bytes true = refl
    ends a b bytes false = refl

    read : (x : Result (Tally × Tally) Unmerged) → (on_both (on room) x).joint ≡ (on_both (on room') x).joint
    unfolding on_both on_merged unmerged
    read (Err why) = refl
    read (Ok (a, b)) = let bytes = merged_bytes first second in rw (← wide) (ends a b bytes (ltb (length room) (length bytes)))

    heard : (h : Option Choice) → (on_heard (on room) h).joint ≡ (on_heard (on room') h).joint
    unfolding on_heard unmerged
    heard None = refl
    heard (Some c) = read (both_of c first second)

    same_joint : (join (on room)).joint ≡ (join (on room')).joint
    unfolding join
    same_joint = heard (choice_of choice)

-- ---- what is written, within the room

module _ (i : Merging) where
  put_within : (a b : Tally) (bytes : List ℕ) (t : Bool) → ltb (length i.room) (length bytes) ≡ t
      → (merged_of (cond t (unmerged i Fault.NoRoom Neither nowhere) (joined i a b bytes)).joint).written ≤ length i.room
  unfolding merged_of unmerged joined
  put_within a b bytes true e = omega arith
  put_within a b bytes false e = ltb-false (length i.room) (length bytes) e

  read_within : (x : Result (Tally × Tally) Unmerged) → (merged_of (on_both i x).joint).written ≤ length i.room
  unfolding merged_of on_both on_merged unmerged
  read_within (Err why) = omega arith
  read_within (Ok (a, b)) =
      let bytes = merged_bytes i.first i.second in put_within a b bytes (ltb (length i.room) (length bytes)) refl

  heard_within : (h : Option Choice) → (merged_of (on_heard i h).joint).written ≤ length i.room
  unfolding merged_of on_heard unmerged
  heard_within None = omega arith
  heard_within (Some c) = read_within (both_of c i.first i.second)

  within : (merged_of (join i).joint).written ≤ length i.room
  unfolding join
  within = heard_within (choice_of i.choice)

-- ---- both, of a room that was lent

pub joins_into : (choice : ℕ) (first second room : List ℕ) (m : Mergence)
    → m ≡ join (on choice first second room)
    → length room ≡ 65536
    → length m.room ≡ length room
    → JoinedInto choice first second m.joint m.room
unfolding joint_of lent_room
joins_into choice first second room m e wide long =
    let h : (merged_of m.joint).written ≤ length m.room = rw (long, e) (within (on choice first second room)) in
    record {
      is = rw e (same_joint choice first second room lent_room (wide ∙ sym (length-replicate {A = ℕ} 65536 0)));
      counts = (h, sym (length-take-le (merged_of m.joint).written m.room h));
    }
