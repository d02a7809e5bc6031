use borrow.Author.Rules.{rules}
use Rattle.line.proofs.Sorts.{by_event, by_kind}
use Rattle.line.proofs.sort.unknown.Goals as goal

pub returns-then-listed_kind : goal.returns-then-listed_kind
returns-then-listed_kind c = by_event _ (search rules) c.listed_kind.ensures c.if-listed_kind.true

pub returns-else-listed_kind : goal.returns-else-listed_kind
returns-else-listed_kind c = by_kind _ (search rules) c.listed_kind.ensures c.if-listed_kind.false
