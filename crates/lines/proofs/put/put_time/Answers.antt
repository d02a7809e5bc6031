use mir.Facts.{to_z-of_z}
use Rattle.lines.proofs.Pieces.{time_put_there}
use Rattle.lines.proofs.put.put_time.Goals as goal

pub returns : goal.returns
returns c = time_put_there _ _ _ (to_z-of_z c.ranges.time) c.requires c.write_time.ensures c.unwrap_or.ensures
