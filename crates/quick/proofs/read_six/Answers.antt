-- Room for six fields, or doubt.
use Rattle.quick.specs.Lines.{BeginsAt, OpensAt}
use Rattle.quick.proofs.read_six.Goals as goal

pub returns-then-n-lt73 : goal.returns-then-n-lt73
unfolding BeginsAt OpensAt
returns-then-n-lt73 c = tt
