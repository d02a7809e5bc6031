use Rattle.paper.specs.Answer.{longest}
use Rattle.both.proofs.Alone.{too_long, was_read}
use Rattle.both.proofs.read_alone.Goals as goal

pub returns-then-s-gt-LONGEST : goal.returns-then-s-gt-LONGEST
unfolding longest
returns-then-s-gt-LONGEST c = too_long _ _ _ c.if-s-gt-LONGEST.true c.nowhere.ensures

pub returns : goal.returns
unfolding longest
returns c = let c₄ = c in
    was_read _ _ _ c₄.if-s-gt-LONGEST.false c₄.requires c.read_trace.ensures
