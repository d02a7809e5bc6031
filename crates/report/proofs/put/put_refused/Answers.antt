use Rattle.paper.specs.Text.{bytes_of}
use Rattle.report.specs.Report.{refused_shown}
use Rattle.report.proofs.Puts.{then}
use Rattle.report.proofs.put.put_refused.Goals as goal

pub returns : goal.returns
unfolding refused_shown bytes_of
returns c = then c.put_named-a.ensures.put c.put_place.ensures
