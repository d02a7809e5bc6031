-- The third field of the record's line.
use borrow.Author.Rules.{rules}
use Rattle.stamps.proofs.Places.{stamp_at}
use Rattle.stamps.proofs.stamp_of.Goals as goal

pub returns : goal.returns
returns c = stamp_at c.start_at-start.ensures c.third_field-third.ensures (search rules) c.shown_length.ensures
