use Rattle.paper.specs.Text.{bytes_of}
use Rattle.report.specs.Told.{pair_shown}
use Rattle.report.proofs.Puts.{then}
use Rattle.report.proofs.put.put_pair.Goals as goal

pub returns : goal.returns
unfolding pair_shown bytes_of
returns c = then c.put_named-a.ensures.put c.put_numbered.ensures.put
