use native.Mathlib.Omega.{arith}
use borrow.Author.Rules.{rules}
use Rattle.lookup.proofs.Place.{here, goes_on_lem, nowhere}
use Rattle.lookup.proofs.place_from.Goals as goal

pub returns-then-line_at-line : goal.returns-then-line_at-line
returns-then-line_at-line c = here c.loop-i.invariant (omega arith) c.line_at.ensures c.if-line_at-line.true

pub loop-i-preserved : goal.loop-i-preserved
loop-i-preserved c = goes_on_lem c.loop-i.invariant (omega arith) c.line_at.ensures (search rules)

pub returns : goal.returns
returns c = nowhere c.loop-i.invariant (omega arith)
