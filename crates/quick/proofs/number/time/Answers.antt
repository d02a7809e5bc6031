-- A time, and the byte behind it.
use Rattle.paper.specs.Forms.{time_of}
use Rattle.quick.proofs.Stops.{inside, stopped_here}
use borrow.Author.Rules.{rules}
use Rattle.quick.proofs.number.time.Goals as goal

pub stopped-requires : goal.stopped-requires
stopped-requires c = inside time_of 17 _ _ _ (search rules) c.signed_time.ensures

pub returns : goal.returns
returns c = rw c.stopped.ensures (stopped_here time_of 17 _ _ _ _ (search rules) c.signed_time.ensures)
