-- What the program `merge CHOICE FIRST SECOND OUT` says, in its order. The system tells three things, which are given here: either trace's
-- file as it could be read, and whether the file for the merged trace could be written.
use Rattle.std.specs.Prelude.{ℕ, Bool, List, replicate, Option, Result, Some, None, Ok, Err}
use Rattle.paper.specs.Columns.{nowhere}
use Rattle.paper.specs.Merging.{join, merged_of}
use Rattle.paper.specs.declared.Fault.TheVariants as Fault
use Rattle.paper.specs.declared.Which.TheVariants.{Neither}
use Rattle.arguments.specs.Arguments.{plan_of}
use Rattle.report.specs.declared.Replied.{Replied}
use Rattle.decided.specs.Decided.{after_merging}
use Rattle.paper.specs.declared.Unmerged.{Unmerged}
use Rattle.paper.specs.declared.Joined.{Joined}
use Rattle.arguments.specs.declared.Misuse.{Misuse}

-- ---- the merging

-- document 01's room: "with room for 65,536 bytes"
unfoldable pub lent_room : List ℕ
lent_room = replicate 65536 0

unfoldable pub joint_of : (choice : ℕ) (first second : List ℕ) → Result Joined Unmerged
joint_of choice first second = (join (record { first = first; second = second; choice = choice; room = lent_room })).joint

unfoldable pub on_traces : (choice : ℕ) (first second : List ℕ) (stored : Bool) → Replied
on_traces choice first second stored = let joint = joint_of choice first second in after_merging joint (merged_of joint) stored

-- ---- the files

-- either file that can't be read, before all that is asked of the traces
unfoldable pub on_files : (choice : ℕ) (first second : Option (List ℕ)) (stored : Bool) → Replied
on_files choice None second stored = Replied.CannotRead
on_files choice (Some first) None stored = Replied.CannotRead
on_files choice (Some first) (Some second) stored = on_traces choice first second stored

-- ---- the arguments

-- "Refusal 1 comes first", and it means neither trace
abbrev pub bad_choice : Result Joined Unmerged
bad_choice = Err (record { fault = Fault.BadChoice; which = Neither; site = nowhere })

-- the arguments are those of `cantuvesh` in number and order; where OUT is not named, it is a file that could not be written
unfoldable pub on_plan : Result (ℕ × Bool) Misuse → (first second : Option (List ℕ)) (stored : Bool) → Replied
on_plan (Err Misuse.BadChoice) first second stored = Replied.Refused (merged_of bad_choice)
on_plan (Err Misuse.TooMany) first second stored = Replied.TooMany
on_plan (Err Misuse.Unnamed) first second stored = Replied.CannotRead
on_plan (Ok (choice, named)) first second stored = on_files choice first second stored

unfoldable pub replied_of : (count : ℕ) (word : List ℕ) (first second : Option (List ℕ)) (stored : Bool) → Replied
replied_of count word first second stored = on_plan (plan_of count word) first second stored
