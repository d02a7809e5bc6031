-- The seventh change request, what its two calls have in common: the judging call's trace, table and numbers, with no times lent and no
-- room, and a list that is filled from its start. "A refused trace keeps its refusal; .. then a list too short is 16. Refusals touch no
-- list; places after the filled ones stay."
use Rattle.std.specs.Prelude.{ℕ, List, ◌++◌, cond, length, drop, ltb}
use Rattle.paper.specs.Numbers.{number_of}
use Rattle.paper.specs.Columns.{nowhere}
use Rattle.paper.specs.Answer.{Given, Found, Reached, stopped, found, reach}
use Rattle.paper.specs.declared.Asked.{Asked}
use Rattle.paper.specs.declared.Fault.{Fault}
use Rattle.paper.specs.declared.Site.{Site}
use Rattle.paper.specs.declared.Filled.{Filled}

-- What such a call is given.
pub record Query : Type 0 where
  pub trace : List ℕ
  pub latencies : List ℕ
  pub asked : Asked

abbrev pub query : (trace latencies : List ℕ) → Asked → Query
query trace latencies asked = record { trace = trace; latencies = latencies; asked = asked }

-- how many times the longest judging call is lent
unfoldable pub most_lent : ℕ
most_lent = 2048

-- what the longest judging call on the same trace is given
unfoldable pub judged : Query → Given
judged q = record { trace = q.trace; latencies = q.latencies; asked = q.asked; places = most_lent }

-- What such a call comes to: the answer, and the list afterwards.
pub record Filling (A : Type 0) : Type 0 where
  pub answer : Filled
  pub list : List A

abbrev pub filling : {A : Type 0} → Filled → List A → Filling A
filling answer list = record { answer = answer; list = list }

unfoldable pub untouched : {A : Type 0} → List A → Fault → Site → Filling A
untouched list fault site =
    record { answer = record { number = number_of fault; line = site.line; column = site.column; filled = 0 }; list = list }

unfoldable pub filled_with : {A : Type 0} → List A → List A → Filling A
filled_with items list =
    record { answer = record { number = 0; line = 0; column = 0; filled = length items }; list = items ++ drop (length items) list }

-- "then a list too short is 16"
unfoldable pub on_list : {A : Type 0} → List A → List A → Filling A
on_list items list = cond (ltb (length list) (length items)) (untouched list Fault.NoRoom nowhere) (filled_with items list)

-- "A refused trace keeps its refusal"
unfoldable pub on_reached : {A : Type 0} → List A → (Found → Filling A) → Reached → Filling A
on_reached list more (stopped fault site) = untouched list fault site
on_reached list more (found f) = more f

unfoldable pub fill : {A : Type 0} → Query → List A → (Found → Filling A) → Filling A
fill q list more = on_reached list more (reach (judged q))
