use Rattle.paper.specs.Text.{bytes_of}
use Rattle.report.specs.Report.{accepted_shown}
use Rattle.report.proofs.Puts.{then}
use Rattle.report.proofs.put.put_accepted.Goals as goal

pub returns : goal.returns
unfolding accepted_shown bytes_of
returns c = let v = c.put_verdict-a.ensures.put in
    let l = c.put_numbered-b.ensures.put in
    let p = c.put_numbered-c.ensures.put in
    let m = c.put_numbered-d.ensures.put in
    let u = c.put_numbered-e.ensures.put in
    let r = c.put_numbered.ensures.put in
    then v (then l (then p (then m (then u r))))
