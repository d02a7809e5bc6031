use Rattle.paper.specs.Text.{bytes_of}
use Rattle.report.specs.Replied.{unmerged_shown}
use Rattle.report.proofs.Puts.{then}
use Rattle.report.proofs.merged.put_unmerged.Goals as goal

pub returns : goal.returns
unfolding unmerged_shown bytes_of
returns c = let n = c.put_named-a.ensures.put in
    let w = c.put_named-b.ensures.put in
    then n (then w c.put_place.ensures)
