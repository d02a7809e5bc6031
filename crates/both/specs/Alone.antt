-- One trace read by itself into a store, and what is left to be said behind the first one.
use Rattle.std.specs.Prelude.{◌≡◌, Bool, List, ℕ, Result, Ok, Err}
use Rattle.paper.specs.Merging.{read_alone, stop_alone, tally_of, both_of}
use Rattle.paper.specs.declared.Choice.{Choice}
use Rattle.paper.specs.declared.Tally.{Tally}
use Rattle.common.specs.Held.{Held}
use Rattle.store.specs.Layout.{capacity, entries_in}
use Rattle.trace.specs.declared.Read.{Read}
use Rattle.paper.specs.declared.Refusal.{Refusal}
use Rattle.paper.specs.declared.Unmerged.{Unmerged}
use Rattle.paper.specs.declared.Which.{Which}

-- what was counted
abbrev pub tally_in : Read → Tally
tally_in r = record { listed = r.listed; passed = r.passed }

-- "4 to 12" and, where none of them is called for, what was counted and where the records are
pub record AloneInto (choice : Choice) (s store : List ℕ) (r : Read) (after : List ℕ) : Type 0 where
  pub same : capacity after ≡ capacity store
  pub stops : r.stop ≡ stop_alone choice s
  pub counts : r.stop ≡ Ok tt → tally_in r ≡ tally_of (read_alone choice s)
  pub holds : r.stop ≡ Ok tt → entries_in after r.listed ≡ (read_alone choice s).entries

-- what stopped one of the two
unfoldable pub stop_in : Which → Result Unit Refusal → Result Unit Unmerged
stop_in which (Ok read) = Ok read
stop_in which (Err refusal) = Err (record { fault = refusal.fault; which = which; site = refusal.site })

-- what both come to, whatever the first was of which this is known
unfoldable pub BehindFirst : Choice → List ℕ → Tally → List Bool → Result (Tally × Tally) Unmerged → Type 0
BehindFirst choice second a held r =
    (first : List ℕ) → stop_alone choice first ≡ Ok tt → a ≡ tally_of (read_alone choice first) → Held (read_alone choice first).entries held
    → r ≡ both_of choice first second
