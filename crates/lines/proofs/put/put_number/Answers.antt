use native.Mathlib.Omega.{arith}
use mathlib.Core.Path.{◌∙◌}
use Rattle.report.proofs.Numbers.{twenty, shown_is}
use Rattle.lines.proofs.put.put_number.Goals as goal

pub returns : goal.returns
returns c = let f = c.decimal-k in
    let e = f.ensures.digits ∙ shown_is c.args.n f.result c.ranges.n.fits f.ensures.len in
    record { put = rw e at c.put_word.ensures; short = omega (arith, twenty c.args.n f.result c.ranges.n.fits f.ensures.len) }
