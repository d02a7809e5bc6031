-- The judging call that the two calls go by, and the parts of what they come to, by name.
use Rattle.std.specs.Prelude.{ℕ, false, List, [], replicate, take, drop, pos}
use Rattle.paper.specs.Columns.{in_line}
use Rattle.paper.specs.Answer.{Inputs}
use Rattle.paper.specs.Filling.{Query, Filling, most_lent}
use Rattle.paper.specs.declared.Site.{Site}

-- the longest judging call on the trace, with no written trace asked for
unfoldable pub judging : Query → Inputs
judging q =
    record {
      trace = q.trace;
      latencies = q.latencies;
      asked = q.asked;
      times = replicate most_lent (pos 0);
      wanted = false;
      room = [];
    }

module _ {A : Type 0} (r : Filling A) where
  abbrev pub number : ℕ
  number = r.answer.number

  abbrev pub site : Site
  site = in_line r.answer.line r.answer.column

  abbrev pub filled : ℕ
  filled = r.answer.filled

  -- the filled places, and those after them
  abbrev pub items : List A
  items = take filled r.list

  abbrev pub rest : List A
  rest = drop filled r.list
