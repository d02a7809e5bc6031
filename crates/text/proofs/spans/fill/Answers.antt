use Rattle.std.proofs.Common.{rules}
use Rattle.text.proofs.Rows.{filled_part}
use Rattle.text.proofs.spans.fill.Goals as goal

pub returns : goal.returns
returns c = filled_part c.requires.0 c.requires.1 (c.fill.ensures.after (λ y e. search rules))
