-- What the code's answer for the six fields means at its cursor; what a cursor means is crate field's to say.
use Rattle.std.specs.Prelude.{ℕ, List, cond, Result, Ok, Err}
use Rattle.paper.specs.Line.{Begun, bad, six, fields_above}
use Rattle.paper.specs.declared.Fault.{Fault}
use Rattle.field.specs.Cursor.{rest_at}
use Rattle.paper.specs.declared.Head.{Head}

unfoldable pub begun_of : List ℕ → Result (Head × ℕ) (Fault × ℕ) → Begun
begun_of l (Err (fault, k)) = bad fault k
begun_of l (Ok (h, next)) = six h (rest_at l next)

abbrev pub begun_next : Result (Head × ℕ) (Fault × ℕ) → ℕ
begun_next (Err (fault, k)) = 0
begun_next (Ok (h, next)) = next

-- what a line comes to of which a field is bad
unfoldable pub bad_field : List ℕ → Fault → ℕ → Begun
bad_field l fault k = cond (fields_above 5 l) (bad fault k) (bad Fault.Form 5)
