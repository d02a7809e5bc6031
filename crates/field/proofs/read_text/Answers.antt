use mathlib.Core.Path.{◌∙◌}
use Rattle.field.proofs.Texts.{text_told}
use Rattle.field.proofs.read_text.Goals as goal

pub returns : goal.returns
returns c = c.then_some.ensures ∙ text_told _ _ _ c.is_same.ensures
