-- What is said, by the tests told and by what the arguments ask for.
use Rattle.std.specs.Prelude.{Option, Result, Some, None, Ok, Err}
use Prim.Native.Nat.{ℕ}
use mathlib.Core.Path.{◌≡◌, sym, ◌∙◌}
use mathlib.Core.Bool.{Bool, true}
use mathlib.Core.List.{List}
use Rattle.io.specs.Counts.{IsPrefixLen}
use Rattle.paper.specs.Merging.{merged_of}
use Rattle.paper.specs.declared.Merged.{Merged}
use Rattle.arguments.specs.Arguments.{plan_of}
use Rattle.report.specs.declared.Replied.{Replied}
use Rattle.decided.specs.Decided.{after_merging}
use Rattle.files.specs.Told.{ByStored, ByFiles}
use Rattle.gather.specs.Program.{joint_of, on_traces, on_files, bad_choice, on_plan, replied_of}
use Rattle.paper.specs.declared.Unmerged.{Unmerged}
use Rattle.paper.specs.declared.Joined.{Joined}
use Rattle.arguments.specs.declared.Misuse.{Misuse}

-- ---- the traces

module _ (joint : Result Joined Unmerged) (merged : Merged) (told : merged ≡ merged_of joint) where
  -- as many bytes of the room are there as the numbers say
  pub there : (room : List ℕ) → IsPrefixLen (merged_of joint).written room → IsPrefixLen merged.written room
  there room counts = rw told counts

  pub concludes : (choice : ℕ) (first second : List ℕ) (stored : Bool) {replied : Replied} → joint ≡ joint_of choice first second
      → replied ≡ after_merging joint merged stored → ByStored (on_traces choice first second) replied
  unfolding on_traces
  concludes choice first second stored is e = record { stored = stored; says = e ∙ rw (told, is) }

-- ---- the files

module _ (choice : ℕ) (first second : Option (List ℕ)) where
  pub first_unread : first ≡ None → ByStored (on_files choice first second) Replied.CannotRead
  unfolding on_files
  first_unread e = record { stored = true; says = rw e }

  module _ {one : List ℕ} (has_first : first ≡ Some one) where
    pub second_unread : second ≡ None → ByStored (on_files choice first second) Replied.CannotRead
    unfolding on_files
    second_unread e = record { stored = true; says = rw (has_first, e) }

    pub both_read : {other : List ℕ} {replied : Replied} → second ≡ Some other → ByStored (on_traces choice one other) replied
        → ByStored (on_files choice first second) replied
    unfolding on_files
    both_read e by = record { stored = by.stored; says = by.says ∙ rw (has_first, e) }

-- ---- the arguments

module _ (count : ℕ) (word : List ℕ) {plan : Result (ℕ × Bool) Misuse} (planned : plan ≡ plan_of count word) where
  pub refuses : {merged : Merged} → plan ≡ Err Misuse.BadChoice → merged ≡ merged_of bad_choice → ByFiles (replied_of count word) (Replied.Refused merged)
  unfolding replied_of on_plan
  refuses e m = record { first = None; second = None; rest = record { stored = true; says = rw (sym planned ∙ e, m) } }

  pub says_many : plan ≡ Err Misuse.TooMany → ByFiles (replied_of count word) Replied.TooMany
  unfolding replied_of on_plan
  says_many e = record { first = None; second = None; rest = record { stored = true; says = rw (sym planned ∙ e) } }

  pub says_unnamed : plan ≡ Err Misuse.Unnamed → ByFiles (replied_of count word) Replied.CannotRead
  unfolding replied_of on_plan
  says_unnamed e = record { first = None; second = None; rest = record { stored = true; says = rw (sym planned ∙ e) } }

  pub merges : {choice : ℕ} {named : Bool} {replied : Replied} → plan ≡ Ok (choice, named) → ByFiles (on_files choice) replied
      → ByFiles (replied_of count word) replied
  unfolding replied_of on_plan
  merges e by = record { first = by.first; second = by.second; rest = record { stored = by.rest.stored; says = by.rest.says ∙ rw (sym planned ∙ e) } }
