-- "Refusals 5 to 10 carry that column, counted from 1. .. Other refusals carry 0.": which mergings get a column.
use Prim.Native.Nat.{◌≤◌, ◌<◌}
use native.Mathlib.Omega.{arith}
use mathlib.Core.Path.{◌≡◌, refl, ap}
use mathlib.Core.Logic.{inl, inr, ◌↔◌}
use Rattle.paper.specs.Numbers.{number_of}
use Rattle.paper.specs.Merging.{Merging}
use Rattle.paper.specs.declared.Fault.{Fault}
use Rattle.paper.specs.declared.Site.{Site}
use Rattle.paper.specs.declared.Which.{Which}
use Rattle.demands.proofs.ColumnRows.{Carries, below_5, above_10, row_carries}
use Rattle.merges.specs.Parts.{number, site, first, second}
use Rattle.merges.specs.Table.{MergeWhen, bad_choice, of_first, of_second, shared, no_room}
use Rattle.merges.proofs.Rows.{Answered, answered}
use Rattle.merges.proofs.Refusals.{joined_number, joined_column, refused_number, refused_site}

module _ (i : Merging) where
  -- a row of a trace has the column that a judging call gets for it, and the other rows have none
  merge_carries : {fault : Fault} {w : Which} {s : Site} → MergeWhen i fault w s → Carries (number_of fault) s.column
  unfolding number_of
  merge_carries (bad_choice one two) = below_5 1 0 (omega arith) refl
  merge_carries (of_first {fault = fault} {s = s} of_trace when) = row_carries (first i) s fault when
  merge_carries (of_second {fault = fault} {s = s} choice read of_trace when) = row_carries (second i) s fault when
  merge_carries (shared both s) = above_10 18 0 (omega arith) refl
  merge_carries (no_room both apart h) = above_10 16 0 (omega arith) refl

  pub column_exactly : ((5 ≤ number i) × (number i ≤ 10)) ↔ (0 < (site i).column)
  column_exactly = go (answered i)
    where
      go : Answered i → Carries (number i) (site i).column
      go (inl j) = below_5 (number i) (site i).column (omega (arith, joined_number i j)) (joined_column i j)
      go (inr (fault, w, s, when)) =
          let its_column : (site i).column ≡ s.column = ap (λ (t : Site). t.column) (refused_site i when) in
          rw (refused_number i when, its_column) (merge_carries when)
