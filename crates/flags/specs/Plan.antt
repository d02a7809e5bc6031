-- What the words ask for: they are taken from the left in pairs, a name and its value, each name once and in any order.
use Rattle.std.specs.Prelude.{ℕ, Bool, true, false, cond, ◌&&◌, not, List, [], ◌∷◌, pos, Option, Some, None}
use Rattle.paper.specs.declared.Asked.{Asked}
use Rattle.named.specs.Values.{name_of, forgotten, choice_of, levels_of, switch_of, share_of, good_for}
use Rattle.named.specs.declared.Name.{Name}
use Rattle.named.specs.declared.Name.TheVariants.{Choice, Trace, Table, Levels, Statistics, Share, Out}
use Rattle.named.specs.declared.levels.Wanted.{Wanted}
use Rattle.named.specs.declared.levels.Wanted.TheVariants.{Off, Expected}

-- ---- what a line comes to

-- what is asked for: the files by their names, and a file for the written trace only if one was named
pub record Request : Type 0 where
  pub asked : Asked
  pub trace : List ℕ
  pub table : List ℕ
  pub out : Option (List ℕ)

-- a bad word, a name that is missing, or a request
pub data Meant : Type 0 where
  bad : List ℕ → Meant
  missing : Name → Meant
  judge : Request → Meant

-- ---- the values given so far

pub record Values : Type 0 where
  pub choice : Option (List ℕ)
  pub trace : Option (List ℕ)
  pub table : Option (List ℕ)
  pub levels : Option (List ℕ)
  pub statistics : Option (List ℕ)
  pub share : Option (List ℕ)
  pub out : Option (List ℕ)

unfoldable pub no_values : Values
no_values = record { choice = None; trace = None; table = None; levels = None; statistics = None; share = None; out = None }

unfoldable pub value_of : Name → Values → Option (List ℕ)
value_of Choice v = v.choice
value_of Trace v = v.trace
value_of Table v = v.table
value_of Levels v = v.levels
value_of Statistics v = v.statistics
value_of Share v = v.share
value_of Out v = v.out

unfoldable pub with_value : Name → List ℕ → Values → Values
with_value Choice value v = record { choice = Some value; trace = v.trace; table = v.table; levels = v.levels; statistics = v.statistics; share = v.share; out = v.out }
with_value Trace value v = record { choice = v.choice; trace = Some value; table = v.table; levels = v.levels; statistics = v.statistics; share = v.share; out = v.out }
with_value Table value v = record { choice = v.choice; trace = v.trace; table = Some value; levels = v.levels; statistics = v.statistics; share = v.share; out = v.out }
with_value Levels value v = record { choice = v.choice; trace = v.trace; table = v.table; levels = Some value; statistics = v.statistics; share = v.share; out = v.out }
with_value Statistics value v = record { choice = v.choice; trace = v.trace; table = v.table; levels = v.levels; statistics = Some value; share = v.share; out = v.out }
with_value Share value v = record { choice = v.choice; trace = v.trace; table = v.table; levels = v.levels; statistics = v.statistics; share = Some value; out = v.out }
with_value Out value v = record { choice = v.choice; trace = v.trace; table = v.table; levels = v.levels; statistics = v.statistics; share = v.share; out = Some value }

unfoldable pub is_given : Option (List ℕ) → Bool
is_given None = false
is_given (Some value) = true

-- ---- a pair

-- not given before, with a value that was not forgotten and has the name's form
unfoldable pub accepts : Name → List ℕ → Values → Bool
accepts name value v = not (is_given (value_of name v)) && (not (forgotten value) && good_for name value)

unfoldable pub taken : Option Name → List ℕ → Values → Option Values
taken None value v = None
taken (Some name) value v = cond (accepts name value v) (Some (with_value name value v)) None

-- ---- the end

-- Levels that are not asked for are 0 with the three numbers 0. No pair with levels of a bad form is taken, and what would come of one is
-- refused: 0 is no choice.
unfoldable pub asked_of : ℕ → Option Wanted → ℕ → ℕ → Asked
asked_of choice (Some Off) statistics share =
    record { choice = choice; levels = 0; picl = pos 0; user = pos 0; trace = pos 0; statistics = statistics; share = share }
asked_of choice (Some (Expected picl user trace)) statistics share =
    record { choice = choice; levels = 1; picl = picl; user = user; trace = trace; statistics = statistics; share = share }
asked_of choice None statistics share =
    record { choice = 0; levels = 0; picl = pos 0; user = pos 0; trace = pos 0; statistics = statistics; share = share }

unfoldable pub needed : Name → Option (List ℕ) → (List ℕ → Meant) → Meant
needed name None more = missing name
needed name (Some value) more = more value

-- the first of the six that was not given is missing; the seventh may be
unfoldable pub concluded : Values → Meant
concluded v =
    needed Choice v.choice (λ choice.
    needed Trace v.trace (λ trace.
    needed Table v.table (λ table.
    needed Levels v.levels (λ levels.
    needed Statistics v.statistics (λ statistics.
    needed Share v.share (λ share.
    judge (record {
      asked = asked_of (choice_of choice) (levels_of levels) (switch_of statistics) (share_of share);
      trace = trace;
      table = table;
      out = v.out;
    })))))))

-- ---- the words

-- The first bad thing from the left decides, and in all ways of being bad it is the word in the name's place that is named: it is no
-- name, was given before, or its value is forgotten or of a bad form.
unfoldable pub on_pair : List ℕ → Option Values → (Values → Meant) → Meant
on_pair word None more = bad word
on_pair word (Some v) more = more v

unfoldable pub plan_from : Values → List (List ℕ) → Meant
plan_from v [] = concluded v
plan_from v (word ∷ []) = bad word
plan_from v (word ∷ value ∷ rest) = on_pair word (taken (name_of word) value v) (λ more. plan_from more rest)

unfoldable pub plan_of : List (List ℕ) → Meant
plan_of words = plan_from no_values words
