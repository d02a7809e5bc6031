use mathlib.Core.Path.{◌∙◌}
use mir.Facts.{to_z-of_z}
use borrow.Author.Rules.{sfits_of}
use Rattle.engine.proofs.Tests.{max_later}
use Rattle.engine.proofs.later.Goals as goal

pub returns : goal.returns
returns c = rw (to_z-of_z (sfits_of c.max.type_inv)) ((simp (to_z-of_z, c.ranges.a, c.ranges.b) at c.max.ensures.value) ∙ max_later c.args.a c.args.b)
