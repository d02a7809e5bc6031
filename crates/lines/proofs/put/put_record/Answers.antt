use Rattle.lines.specs.Parts.{record_shown}
use Rattle.paper.specs.Text.{bytes_of}
use Rattle.report.proofs.Puts.{then}
use native.Mathlib.Omega.{arith}
use Rattle.lines.proofs.put.put_record.Goals as goal

pub returns : goal.returns
unfolding record_shown bytes_of
returns c = let a = c.put_named-a.ensures in
    let b = c.put_named.ensures in
    record { put = then a.put b.put; short = omega (arith, a.short, b.short) }
