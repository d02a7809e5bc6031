use Rattle.rule.proofs.Threes.{names}
use Rattle.rule.proofs.three.named_at.Goals as goal

pub returns : goal.returns
returns c = names _ _ _ _ c.word_end-end.ensures c.who_is-who.ensures c.word_start-next.ensures
