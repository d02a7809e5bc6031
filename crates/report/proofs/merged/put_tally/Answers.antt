use native.Mathlib.Omega.{arith}
use Rattle.paper.specs.Text.{bytes_of}
use Rattle.report.specs.Replied.{tally_shown}
use Rattle.report.proofs.Puts.{then}
use Rattle.report.proofs.merged.put_tally.Goals as goal

pub returns : goal.returns
unfolding tally_shown bytes_of
returns c = let a = c.put_named-a.ensures in
    let b = c.put_numbered.ensures in
    record { put = then a.put b.put; short = omega (arith, a.short, b.short) }
