use borrow.Author.Rules.{rules}
use Rattle.store.specs.Layout.{width}
use Rattle.store.proofs.Places.{through, message_is}
use Rattle.store.proofs.parts.message.Goals as goal

pub part-length-requires : goal.part-length-requires
unfolding width
part-length-requires c = search rules

pub whole-tag-requires : goal.whole-tag-requires
unfolding width
whole-tag-requires c = search rules

pub part-peer-requires : goal.part-peer-requires
unfolding width
part-peer-requires c = search rules

pub returns : goal.returns
returns c = rw c.from.ensures (message_is _ _ c.part-length.ensures (through c.whole-tag.ensures (search rules)) c.part-peer.ensures)
