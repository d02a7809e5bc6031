-- Demand 1: "Any bytes, any latency table and any choice get an answer and the reading ends. Bad input is refused by number and
-- line, and after a refusal the lent times and output hold what they held before. Nothing is assumed of the caller."
use Rattle.std.specs.Prelude.{◌≤◌, ◌<◌, ◌≡◌, ◌⊎◌, ◌↔◌}
use Rattle.paper.specs.Numbers.{number_of}
use Rattle.paper.specs.Answer.{Inputs, Outcome, judge}
use Rattle.paper.specs.declared.Fault.{Fault}
use Rattle.paper.specs.declared.Site.{Site}
use Rattle.demands.specs.Parts.{number, column, site}
use Rattle.demands.specs.Steps.{Accepted}
use Rattle.demands.specs.Table.{When}

-- "verdict 0 and all counts 0, and leaves times and output room untouched"
pub record Untouched (i : Inputs) (o : Outcome) : Type 0 where
  pub verdict : o.answer.verdict ≡ 0
  pub listed : o.answer.listed ≡ 0
  pub passed : o.answer.passed ≡ 0
  pub matched : o.answer.matched ≡ 0
  pub unreceived : o.answer.unreceived ≡ 0
  pub rounds : o.answer.rounds ≡ 0
  pub written : o.answer.written ≡ 0
  pub times : o.times ≡ i.times
  pub room : o.room ≡ i.room

pub record Demand1 : Type 0 where
  -- "Any bytes, any latency table and any choice get an answer and the reading ends": 0, or a row of the table
  pub answered : (i : Inputs) → Accepted i ⊎ ((fault : Fault) × (s : Site) × When i fault s)
  pub accepted : (i : Inputs) → (number i ≡ 0) ↔ Accepted i
  -- "Bad input is refused by number and line", and by the column: exactly when the table's row says so
  pub refused : (i : Inputs) (fault : Fault) (s : Site) → ((number i ≡ number_of fault) × (site i ≡ s)) ↔ When i fault s
  -- "refusals 5 to 10 carry that column, counted from 1. .. Other refusals carry 0."
  pub columns : (i : Inputs) → ((5 ≤ number i) × (number i ≤ 10)) ↔ (0 < column i)
  -- "and after a refusal the lent times and output hold what they held before"
  pub kept : (i : Inputs) → ¬ (number i ≡ 0) → Untouched i (judge i)
  -- "Nothing is assumed of the caller": any inputs will do above. And there is one answer only
  pub one_outcome : (i : Inputs) (a b : Outcome) → a ≡ judge i → b ≡ judge i → a ≡ b
