-- The fifth change request: where a call is refused. "Refusals 5 to 10 carry that column, counted from 1. .. Other refusals carry 0."
use Rattle.std.specs.Prelude.{ℕ, zero, suc, ◌+◌, List, cond, length, Option, Some, None, Result, Err}
use Rattle.octets.specs.Octets.{index_of}
use Rattle.paper.specs.Line.{after, goes_on}
use Rattle.paper.specs.declared.Fault.{Fault}
use Rattle.paper.specs.declared.Site.{Site}
use Rattle.paper.specs.declared.Refusal.{Refusal}

-- "Where a field or LF is missing, the column is one past the line's last byte, LF not counted."
abbrev pub past_end : List ℕ → ℕ
past_end l = suc (length l)

-- where field k begins, k counted from 0: the first one at 1, and each other one behind the space that ends the one before it
unfoldable pub column_of : ℕ → List ℕ → ℕ
column_of zero l = 1
column_of (suc k) l = cond (goes_on l) (suc (index_of 32 l) + column_of k (after l)) (past_end l)

-- of what decides in a line that is refused, 0 where that is no field
unfoldable pub column_in : List ℕ → Option ℕ → ℕ
column_in l (Some k) = column_of k l
column_in l None = 0

-- ---- sites

abbrev pub in_line : ℕ → ℕ → Site
in_line n column = record { line = n; column = column }

-- a line as a whole
abbrev pub whole_line : ℕ → Site
whole_line n = in_line n 0

-- no line at all
abbrev pub nowhere : Site
nowhere = whole_line 0

-- ---- refusals

-- by a fault, at a site
abbrev pub refused_at : Fault → Site → Result Unit Refusal
refused_at fault site = Err (record { fault = fault; site = site })
