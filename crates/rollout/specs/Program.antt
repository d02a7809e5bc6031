-- What the program `canary` says, by what its arguments mean and by what the system tells of its files.
use Rattle.std.specs.Prelude.{ℕ, Bool, List, Option}
use Rattle.io.specs.Counts.{IsPrefixLen}
use Rattle.report.specs.Put.{Put}
use Rattle.report.specs.Said.{said_shown}
use Rattle.filed.specs.Filed.{on_files}
use Rattle.flags.specs.Plan.{Meant, bad, missing, judge, is_given}
use Rattle.complaint.specs.Complaint.{complaint_of}

-- a bad or missing argument is named, and no file matters; the written trace is wanted where a file for it was named
unfoldable pub shown_of : Meant → (trace table : Option (List ℕ)) (stored : Bool) → List ℕ
shown_of (bad word) trace table stored = complaint_of (bad word)
shown_of (missing name) trace table stored = complaint_of (missing name)
shown_of (judge request) trace table stored = said_shown (on_files request.asked (is_given request.out) trace table stored)

-- at a room's start, by what the system told
pub record ShownBy (meant : Meant) (room : List ℕ) (length : ℕ) (after : List ℕ) : Type 0 where
  pub trace : Option (List ℕ)
  pub table : Option (List ℕ)
  pub stored : Bool
  pub put : Put room 0 (shown_of meant trace table stored) length after
  pub counts : IsPrefixLen length after
