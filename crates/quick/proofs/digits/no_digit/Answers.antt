-- Outside '0' to '9' on either side.
use Rattle.quick.proofs.Runs.{outside}
use Rattle.quick.proofs.digits.no_digit.Goals as goal

pub returns : goal.returns
returns c = outside _
