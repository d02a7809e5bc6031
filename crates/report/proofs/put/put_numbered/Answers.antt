use native.Mathlib.Omega.{arith}
use Rattle.paper.specs.Text.{bytes_of}
use Rattle.report.specs.Report.{numbered}
use Rattle.report.proofs.Puts.{then}
use Rattle.report.proofs.put.put_numbered.Goals as goal

pub returns : goal.returns
unfolding numbered bytes_of
returns c = let a = c.put_named-a.ensures in
    let b = c.put_word.ensures in
    record { put = then a.put b; short = omega (arith, a.short, b.ends) }
