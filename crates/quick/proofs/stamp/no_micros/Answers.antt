-- Every comparison is false.
use Rattle.quick.proofs.Sums.{point_of}
use Rattle.quick.proofs.stamp.no_micros.Goals as goal

pub returns : goal.returns
returns c = point_of _ _ _ _ _ _ _
