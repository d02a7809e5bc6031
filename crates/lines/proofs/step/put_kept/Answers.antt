use Rattle.paper.specs.Text.{bytes_of}
use Rattle.lines.specs.Lines.{kept_shown}
use Rattle.report.proofs.Puts.{then}
use Rattle.lines.proofs.step.put_kept.Goals as goal

pub returns : goal.returns
unfolding kept_shown bytes_of
returns c = then c.put_named-a.ensures.put (then c.put_named-b.ensures.put c.put_numbered.ensures)
