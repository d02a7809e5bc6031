-- By the share.
use mathlib.Core.Path.{◌∙◌}
use Rattle.waits.proofs.Gaps.{gaps_share, gaps_kept}
use Rattle.waits.proofs.gaps_into.Goals as goal

pub returns-then-share-le1000 : goal.returns-then-share-le1000
returns-then-share-le1000 c = c.keep_share.ensures ∙ gaps_share _ _ _ c.if-share-le1000.true

pub returns-else-share-le1000 : goal.returns-else-share-le1000
returns-else-share-le1000 c = gaps_kept _ _ _ c.if-share-le1000.false
