use borrow.Author.Rules.{rules}
use Rattle.signed.proofs.Halves.{from_even, from_odd}
use Rattle.signed.proofs.from_code.Goals as goal

pub returns-then-n-eq0 : goal.returns-then-n-eq0
returns-then-n-eq0 c = from_even _ (search rules) c.if-n-eq0.true

pub returns : goal.returns
returns c = from_odd _ (search rules) c.if-n-eq0.false
