use borrow.Author.Rules.{rules}
use mathlib.Core.Path.{◌∙◌}
use Rattle.line.proofs.Parts.{no_place, bad_data}
use Rattle.line.proofs.listed.without_values.Goals as goal

pub returns-in-Some : goal.returns-in-Some
returns-in-Some c fields is = bad_data _ _ _ (c.place_of.ensures ∙ search rules) _ c.in-Some.is _ is

pub returns-in-None : goal.returns-in-None
returns-in-None c fields is = no_place _ _ _ (c.place_of.ensures ∙ search rules) c.in-None.is c.misplaced.ensures
