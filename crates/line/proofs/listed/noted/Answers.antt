use Rattle.paper.specs.Line.{message_of}
use Rattle.line.proofs.listed.noted.Goals as goal

pub returns-in-Others : goal.returns-in-Others
unfolding message_of
returns-in-Others c = rw c.in-Others.is
