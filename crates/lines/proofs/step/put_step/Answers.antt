use Rattle.paper.specs.Text.{bytes_of}
use Rattle.lines.specs.Lines.{step_shown}
use Rattle.report.proofs.Puts.{then}
use Rattle.lines.proofs.step.put_step.Goals as goal

pub returns : goal.returns
unfolding step_shown bytes_of
returns c = then c.put_record-a.ensures.put (then c.put_times-b.ensures.put c.put_cause.ensures)
