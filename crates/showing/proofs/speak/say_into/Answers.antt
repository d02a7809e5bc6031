use Rattle.showing.proofs.Speaking.{said_into}
use Rattle.showing.proofs.speak.say_into.Goals as goal

pub returns : goal.returns
returns c = said_into c.say-n.ensures c.blank-line.ensures c.requires c.add.ensures
