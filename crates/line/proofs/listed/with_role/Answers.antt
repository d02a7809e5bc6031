use borrow.Author.Rules.{rules}
use Rattle.line.proofs.Parts.{listed_with, not_with}
use Rattle.line.proofs.listed.with_role.Goals as goal

pub returns-in-Some : goal.returns-in-Some
returns-in-Some c = listed_with _ _ _ _ _ (search rules) (search rules) (search rules) (c.in-Some.is)

pub returns-in-None : goal.returns-in-None
returns-in-None c = not_with _ _ _ _ (c.in-None.is) c.lacking.ensures
