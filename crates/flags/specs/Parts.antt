-- What the parts of the code leave.
use Rattle.std.specs.Prelude.{ℕ, ◌≡◌, Bool, ◌&&◌, not, List, Option, Some, None, is_some, IfSome}
use Rattle.named.specs.Values.{name_of, forgotten, good_for}
use Rattle.flags.specs.Plan.{Values, taken}
use Rattle.flags.specs.Spans.{value_in}
use Rattle.named.specs.Parts.{cut, Within}
use Rattle.named.specs.declared.Span.{Span}
use Rattle.named.specs.declared.Name.{Name}
use Rattle.named.specs.declared.Name.TheVariants.{Choice, Trace, Table, Levels, Statistics, Share, Out}
use Rattle.flags.specs.declared.given.Given.{Given}

-- ---- what was given

unfoldable pub no_spans : Given
no_spans = record { choice = None; trace = None; table = None; levels = None; statistics = None; share = None; out = None }

unfoldable pub span_of : Name → Given → Option Span
span_of Choice g = g.choice
span_of Trace g = g.trace
span_of Table g = g.table
span_of Levels g = g.levels
span_of Statistics g = g.statistics
span_of Share g = g.share
span_of Out g = g.out

unfoldable pub with_span : Name → Span → Given → Given
with_span Choice span g = record { choice = Some span; trace = g.trace; table = g.table; levels = g.levels; statistics = g.statistics; share = g.share; out = g.out }
with_span Trace span g = record { choice = g.choice; trace = Some span; table = g.table; levels = g.levels; statistics = g.statistics; share = g.share; out = g.out }
with_span Table span g = record { choice = g.choice; trace = g.trace; table = Some span; levels = g.levels; statistics = g.statistics; share = g.share; out = g.out }
with_span Levels span g = record { choice = g.choice; trace = g.trace; table = g.table; levels = Some span; statistics = g.statistics; share = g.share; out = g.out }
with_span Statistics span g = record { choice = g.choice; trace = g.trace; table = g.table; levels = g.levels; statistics = Some span; share = g.share; out = g.out }
with_span Share span g = record { choice = g.choice; trace = g.trace; table = g.table; levels = g.levels; statistics = g.statistics; share = Some span; out = g.out }
with_span Out span g = record { choice = g.choice; trace = g.trace; table = g.table; levels = g.levels; statistics = g.statistics; share = g.share; out = Some span }

unfoldable pub values_in : List ℕ → Given → Values
values_in line g =
    record {
      choice = value_in line g.choice;
      trace = value_in line g.trace;
      table = value_in line g.table;
      levels = value_in line g.levels;
      statistics = value_in line g.statistics;
      share = value_in line g.share;
      out = value_in line g.out;
    }

pub record Held (line : List ℕ) (given : Given) : Type 0 where
  pub choice : IfSome given.choice (Within line)
  pub trace : IfSome given.trace (Within line)
  pub table : IfSome given.table (Within line)
  pub levels : IfSome given.levels (Within line)
  pub statistics : IfSome given.statistics (Within line)
  pub share : IfSome given.share (Within line)
  pub out : IfSome given.out (Within line)

-- ---- a pair

unfoldable pub accepted : Given → Name → List ℕ → Bool
accepted given name value = not (is_some (span_of name given)) && (not (forgotten value) && good_for name value)

unfoldable pub turn_in : List ℕ → Option Given → Option Values
turn_in line None = None
turn_in line (Some given) = Some (values_in line given)

pub record Turned (line : List ℕ) (given : Given) (name value : Span) (turn : Option Given) : Type 0 where
  pub is : turn_in line turn ≡ taken (name_of (cut line name)) (cut line value) (values_in line given)
  pub held : (next : Given) → turn ≡ Some next → Held line next
