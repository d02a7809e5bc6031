-- "Refusals 5 to 10 carry that column, counted from 1. .. Other refusals carry 0.": which rows have a column.
use Prim.Native.Nat.{ℕ, ◌≤◌, ◌<◌}
use native.Mathlib.Omega.{arith}
use mathlib.Core.Path.{◌≡◌, ap}
use mathlib.Core.Logic.{inl, inr, ◌↔◌}
use mathlib.Core.List.{List}
use Rattle.paper.specs.Numbers.{number_of}
use Rattle.paper.specs.Columns.{nowhere}
use Rattle.paper.specs.Answer.{Inputs}
use Rattle.paper.specs.declared.Choice.{Choice}
use Rattle.paper.specs.declared.Fault.{Fault}
use Rattle.paper.specs.declared.Site.{Site}
use Rattle.demands.specs.Table.{InField, When}
use Rattle.demands.proofs.Columns.{column_from_1}

-- a number from 5 to 10 has a column, and another one 0
abbrev pub Carries : ℕ → ℕ → Type 0
Carries number column = ((5 ≤ number) × (number ≤ 10)) ↔ (0 < column)

carries : (number column : ℕ) → 5 ≤ number → number ≤ 10 → 0 < column → Carries number column
carries number column low high c = (λ n. c, λ h. (low, high))

pub below_5 : (number column : ℕ) → number < 5 → column ≡ 0 → Carries number column
below_5 number column low c = (λ (a, b). absurd (omega arith), λ h. absurd (omega arith))

pub above_10 : (number column : ℕ) → 10 < number → column ≡ 0 → Carries number column
above_10 number column high c = (λ (a, b). absurd (omega arith), λ h. absurd (omega arith))

module _ (i : Inputs) (s : Site) where
  no_column : s ≡ nowhere → s.column ≡ 0
  no_column e = ap (λ (t : Site). t.column) e

  field_column : (bad : Choice → List ℕ → ℕ → Type 0) → InField i s bad → 0 < s.column
  field_column bad f = rw f.column (column_from_1 f.field f.at.line)

  pub row_carries : (fault : Fault) → When i fault s → Carries (number_of fault) s.column
  unfolding When number_of
  row_carries Fault.BadChoice (unheard, e) = below_5 1 s.column (omega arith) (no_column e)
  row_carries Fault.WrongLength (choice, c, l, e) = below_5 2 s.column (omega arith) (no_column e)
  row_carries Fault.HighLatency (choice, c, l, h, e) = below_5 3 s.column (omega arith) (no_column e)
  row_carries Fault.LongTrace (choice, c, l, h, short, e) = below_5 4 s.column (omega arith) (no_column e)
  row_carries Fault.Form (inl n) = carries 5 s.column (omega arith) (omega arith) (omega (arith, n.column))
  row_carries Fault.Form (inr f) = carries 5 s.column (omega arith) (omega arith) (field_column _ f)
  row_carries Fault.Stamp f = carries 6 s.column (omega arith) (omega arith) (field_column _ f)
  row_carries Fault.Unlisted f = carries 7 s.column (omega arith) (omega arith) (field_column _ f)
  row_carries Fault.NotHandled f = carries 8 s.column (omega arith) (omega arith) (field_column _ f)
  row_carries Fault.Place f = carries 9 s.column (omega arith) (omega arith) (field_column _ f)
  row_carries Fault.NoMessage f = carries 10 s.column (omega arith) (omega arith) (field_column _ f)
  row_carries Fault.Backwards (at, r, e) = above_10 11 s.column (omega arith) e
  row_carries Fault.TooMany (at, r, e) = above_10 12 s.column (omega arith) e
  row_carries Fault.NoSend (f, e) = above_10 13 s.column (omega arith) e
  row_carries Fault.LongReceive (f, e) = above_10 14 s.column (omega arith) e
  row_carries Fault.NoTimes (choice, m, none-sound, e) = above_10 15 s.column (omega arith) (no_column e)
  row_carries Fault.NoRoom (choice, rounds, times, m, settles, wanted, l, e) = above_10 16 s.column (omega arith) (no_column e)
  row_carries Fault.OtherLevels (o, e) = above_10 17 s.column (omega arith) e
  row_carries Fault.OtherStatistics (o, e) = above_10 19 s.column (omega arith) e
  row_carries Fault.SharedProcessor never = absurd never
  row_carries Fault.NoPlace never = absurd never
