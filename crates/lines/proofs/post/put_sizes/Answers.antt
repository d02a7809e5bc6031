use Rattle.paper.specs.Text.{bytes_of}
use mir.Facts.{to_z-of_z}
use Rattle.lines.specs.Lines.{sizes_shown}
use Rattle.report.proofs.Puts.{then}
use Rattle.lines.proofs.post.put_sizes.Goals as goal

pub returns : goal.returns
unfolding sizes_shown bytes_of
returns c = let tag = rw (to_z-of_z c.ranges.tag) at c.put_whole-d.ensures.put in
    then c.put_named-a.ensures.put (then c.put_named-b.ensures.put (then c.put_word-c.ensures (then tag c.put_word.ensures)))
