use borrow.Author.Rules.{rules}
use mathlib.Core.Path.{◌∙◌}
use Rattle.line.proofs.Parts.{no_place, good_place}
use Rattle.line.proofs.listed.with_values.Goals as goal

pub returns-in_default : goal.returns-in_default
returns-in_default c fields is = no_place _ _ _ (c.place_of.ensures ∙ search rules) c.in_default.is c.misplaced.ensures

pub returns : goal.returns
returns c fields is = c.with_role.ensures ∙ good_place _ _ _ (c.place_of.ensures ∙ search rules) _ c.in-Some.is _ _ _ (search rules) (search rules) c.part_of-part.ensures c.role_of.ensures is
