use mathlib.Core.Path.{◌∙◌}
use Rattle.rule.specs.Rule.{meaning_of}
use Rattle.rule.proofs.Cuts.{uncommented_is}
use Rattle.rule.proofs.read_line.Goals as goal

pub returns : goal.returns
unfolding meaning_of
returns c = c.read_words.ensures ∙ rw (uncommented_is _ _ c.find-end.ensures.place)
