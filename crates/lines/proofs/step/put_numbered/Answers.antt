use Rattle.paper.specs.Text.{bytes_of}
use Rattle.report.specs.Report.{numbered}
use Rattle.report.proofs.Puts.{then}
use Rattle.lines.proofs.step.put_numbered.Goals as goal

pub returns : goal.returns
unfolding numbered bytes_of
returns c = then c.put_named-a.ensures.put c.put_word.ensures
