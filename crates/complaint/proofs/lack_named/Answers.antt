-- The line that the lack asks for.
use mathlib.Core.Path.{refl}
use Rattle.paper.specs.Text.{bytes_of}
use Rattle.flags.specs.Spans.{plan_in}
use Rattle.complaint.specs.Complaint.{complaint_of}
use Rattle.complaint.proofs.Shows.{name_shown, complains}
use Rattle.complaint.proofs.lack_named.Goals as goal

pub returns-in-Bad : goal.returns-in-Bad
unfolding plan_in complaint_of bytes_of
returns-in-Bad c = complains (rw c.in-Bad.is refl) c.put_line.ensures

pub returns-in-Missing : goal.returns-in-Missing
unfolding plan_in complaint_of bytes_of
returns-in-Missing c = complains (rw (c.in-Missing.is, c.place_of-place.ensures, name_shown)) c.put_line-in-Missing.ensures
