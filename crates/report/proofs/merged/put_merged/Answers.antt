use Rattle.paper.specs.Text.{bytes_of}
use Rattle.report.specs.Replied.{merged_shown}
use Rattle.report.proofs.Puts.{then}
use Rattle.report.proofs.merged.put_merged.Goals as goal

pub returns : goal.returns
unfolding merged_shown bytes_of
returns c = let n = c.put_named-a.ensures.put in
    let l = c.put_word-b.ensures in
    let a = c.put_tally-c.ensures.put in
    then n (then l (then a c.put_tally.ensures.put))
