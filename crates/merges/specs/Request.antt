-- The sixth change request of the merging call, for any two traces, any choice and any room.
use Rattle.std.specs.Prelude.{ℕ, ◌≤◌, ◌<◌, ◌≡◌, ◌⊎◌, ◌↔◌, List, Some}
use Rattle.paper.specs.Numbers.{number_of}
use Rattle.paper.specs.Answer.{choice_of}
use Rattle.paper.specs.Merging.{Merging, MergeOutcome, which_of, merge}
use Rattle.paper.specs.declared.Choice.{Choice}
use Rattle.paper.specs.declared.Fault.{Fault}
use Rattle.paper.specs.declared.Site.{Site}
use Rattle.paper.specs.declared.Which.{Which}
use Rattle.merges.specs.Parts.{number, which, site, written, Joins}
use Rattle.merges.specs.Table.{MergeWhen}
use Rattle.merges.specs.Stamps.{Stamped}
use Rattle.merges.specs.Trace.{MergedTrace}

pub record Merges : Type 0 where
  -- every merging gets an answer: 0, or a row of the table
  pub answered : (i : Merging) → Joins i ⊎ ((fault : Fault) × (w : Which) × (s : Site) × MergeWhen i fault w s)
  pub accepted : (i : Merging) → (number i ≡ 0) ↔ Joins i
  -- "each says which trace it means, 0 for neither": exactly when the row says so
  pub refused : (i : Merging) (fault : Fault) (w : Which) (s : Site)
      → ((number i ≡ number_of fault) × (which i ≡ which_of w) × (site i ≡ s)) ↔ MergeWhen i fault w s
  -- the fifth one: "refusals 5 to 10 carry that column, counted from 1. .. Other refusals carry 0."
  pub columns : (i : Merging) → ((5 ≤ number i) × (number i ≤ 10)) ↔ (0 < (site i).column)
  -- "and leaves the room untouched"
  pub kept : (i : Merging) → ¬ (number i ≡ 0) → (written i ≡ 0) × ((merge i).room ≡ i.room)
  -- "the line with the smaller timestamp": what lines are merged by is the timestamp that they have, listed and passed over alike
  pub stamps : (choice : Choice) (l : List ℕ) → Stamped choice l
  pub merged : (i : Merging) (choice : Choice) → choice_of i.choice ≡ Some choice → number i ≡ 0 → MergedTrace i choice
  -- there is one answer only
  pub one_outcome : (i : Merging) (a b : MergeOutcome) → a ≡ merge i → b ≡ merge i → a ≡ b
