-- "A refused trace keeps its refusal; then a place not below the listed count is 22, line 0; then a list too short is 16": when each is
-- given, with the line and the column.
use Rattle.std.specs.Prelude.{ℕ, ◌≤◌, ◌<◌, List, length}
use Rattle.paper.specs.Columns.{nowhere}
use Rattle.paper.specs.Chain.{chain_of}
use Rattle.paper.specs.Filling.{Query}
use Rattle.paper.specs.declared.Fault.{Fault}
use Rattle.paper.specs.declared.Pair.{Pair}
use Rattle.paper.specs.declared.Site.{Site}
use Rattle.demands.specs.Parts.{listed, matched, time}
use Rattle.demands.specs.Steps.{Accepted, waits}
use Rattle.demands.specs.Table.{When}
use Rattle.causes.specs.Calls.{judging}

-- of the list of messages
pub data MessagesWhen (q : Query) (list : List Pair) : Fault → Site → Type 0 where
  of_trace : {fault : Fault} {s : Site} → When (judging q) fault s → MessagesWhen q list fault s
  short : Accepted (judging q) → length list < matched (judging q) → MessagesWhen q list Fault.NoRoom nowhere

-- of the chain of the record at a place
pub data ChainWhen (q : Query) (place : ℕ) (list : List ℕ) : Fault → Site → Type 0 where
  of_trace : {fault : Fault} {s : Site} → When (judging q) fault s → ChainWhen q place list fault s
  no_place : Accepted (judging q) → listed (judging q) ≤ place → ChainWhen q place list Fault.NoPlace nowhere
  short : (a : Accepted (judging q)) → place < listed (judging q)
      → length list < length (chain_of (waits (judging q) a.choice) (time (judging q)) place)
      → ChainWhen q place list Fault.NoRoom nowhere
