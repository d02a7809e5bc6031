use Rattle.report.proofs.Outcome.{refused, accepted}
use Rattle.report.proofs.report.Goals as goal

pub returns-then-number-ne0 : goal.returns-then-number-ne0
returns-then-number-ne0 c = refused c.if-number-ne0.true c.put_refused.ensures

pub returns : goal.returns
returns c = accepted c.if-number-ne0.false c.put_accepted.ensures
