-- What the judgement leaves for the program: the answer, and a room that has as many bytes as it says.
use Rattle.std.specs.Prelude.{ℕ, ◌≡◌, Bool, List}
use Rattle.io.specs.Counts.{IsPrefixLen}
use Rattle.paper.specs.declared.Answer.{Answer}
use Rattle.paper.specs.declared.Asked.{Asked}
use Rattle.filed.specs.Filed.{answer_of}

pub record JudgedInto (asked : Asked) (wanted : Bool) (trace latencies : List ℕ) (answer : Answer) (room : List ℕ) : Type 0 where
  pub is : answer ≡ answer_of asked wanted trace latencies
  pub counts : IsPrefixLen answer.written room
