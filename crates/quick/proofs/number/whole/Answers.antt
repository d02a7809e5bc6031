-- One digit, or a number of any length.
use Rattle.paper.specs.Forms.{whole_of}
use Rattle.quick.proofs.Stops.{inside, stopped_here}
use borrow.Author.Rules.{rules}
use Rattle.quick.proofs.number.whole.Goals as goal

pub stopped-requires : goal.stopped-requires
stopped-requires c = inside whole_of 10 _ _ _ (search rules) c.signed_whole.ensures

pub returns : goal.returns
returns c = rw c.stopped.ensures (stopped_here whole_of 10 _ _ _ _ (search rules) c.signed_whole.ensures)
