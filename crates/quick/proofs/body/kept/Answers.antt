-- Three whole numbers, or others.
use borrow.Author.Rules.{rules}
use borrow.Author.Tests.{eq-eqb, ne_eqb}
use Rattle.quick.specs.Lines.{last_of}
use Rattle.quick.proofs.Takes.{last_other}
use Rattle.quick.proofs.body.kept.Goals as goal

pub returns-then-n-eq3 : goal.returns-then-n-eq3
unfolding last_of
returns-then-n-eq3 c = rw (c.in-Whole.is, eq-eqb _ 3 c.if-n-eq3.true) (search rules)

pub returns-else-n-eq3 : goal.returns-else-n-eq3
unfolding last_of
returns-else-n-eq3 c = rw (c.in-Whole.is, ne_eqb _ 3 c.if-n-eq3.false)

pub returns-in_default : goal.returns-in_default
returns-in_default c = last_other _ _ _ _ _ c.in_default.not-Whole
