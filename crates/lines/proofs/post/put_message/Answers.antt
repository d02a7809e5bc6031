use mir.Facts.{to_z-of_z}
use Rattle.paper.specs.Text.{bytes_of}
use Rattle.lines.specs.Lines.{message_shown}
use Rattle.report.proofs.Puts.{then}
use Rattle.lines.proofs.post.put_message.Goals as goal

pub returns : goal.returns
unfolding message_shown bytes_of
returns c = let told = rw (to_z-of_z c.ranges.tag) at c.put_sizes.ensures in
    then c.put_party-a.ensures.put (then c.put_party-b.ensures.put told)
