-- the library compares the bytes.
use mathlib.Core.Path.{◌∙◌}
use Rattle.texts.proofs.Same.{same_told}
use Rattle.texts.proofs.is_same.Goals as goal

pub returns : goal.returns
returns c = c.eq.ensures ∙ same_told _ _
