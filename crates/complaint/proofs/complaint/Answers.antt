-- Nothing is said where nothing is bad or missing.
use mathlib.Core.Path.{refl}
use Rattle.flags.specs.Spans.{plan_in}
use Rattle.complaint.specs.Complaint.{complaint_of}
use Rattle.complaint.proofs.Shows.{says_nothing}
use Rattle.complaint.proofs.complaint.Goals as goal

pub returns-in-Err : goal.returns-in-Err
returns-in-Err c = rw c.in-Err.is c.lack_named.ensures

pub returns-in-Ok : goal.returns-in-Ok
unfolding plan_in complaint_of
returns-in-Ok c = says_nothing _ (rw c.in-Ok.is refl)
