use native.Mathlib.Omega.{arith}
use Rattle.report.specs.Report.{named}
use Rattle.report.proofs.Puts.{then}
use Rattle.lines.proofs.put.put_named.Goals as goal

pub returns : goal.returns
unfolding named
returns c = let a = c.put_word-a.ensures in
    let b = c.put_number.ensures in
    record { put = then a b.put; short = omega (arith, a.ends, b.short) }
