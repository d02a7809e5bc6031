use Rattle.inquiry.proofs.Arguments.{no_share, one_less, as_many}
use Rattle.inquiry.proofs.begun.without_share.Goals as goal

pub returns-then-count-eq6 : goal.returns-then-count-eq6
returns-then-count-eq6 c = one_less c.in-Reasons.is c.if-count-eq6.true

pub returns-in-Messages : goal.returns-in-Messages
returns-in-Messages c = no_share c.in-Messages.is

pub returns-else-count-eq6 : goal.returns-else-count-eq6
returns-else-count-eq6 c = as_many c.in-Reasons.is c.if-count-eq6.false
