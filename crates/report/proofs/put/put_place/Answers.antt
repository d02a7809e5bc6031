use Rattle.paper.specs.Text.{bytes_of}
use Rattle.report.proofs.Puts.{then}
use Rattle.report.proofs.put.put_place.Goals as goal

pub returns : goal.returns
unfolding bytes_of
returns c = then c.put_named-a.ensures.put c.put_numbered.ensures.put
