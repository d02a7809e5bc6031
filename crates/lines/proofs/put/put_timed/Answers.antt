use native.Mathlib.Omega.{arith}
use mir.Facts.{to_z-of_z}
use Rattle.lines.specs.Parts.{timed}
use Rattle.report.proofs.Puts.{then}
use Rattle.lines.proofs.put.put_timed.Goals as goal

pub returns : goal.returns
unfolding timed
returns c = let a = c.put_word-a.ensures in
    let t = rw (to_z-of_z c.ranges.time) at c.put_time.ensures in
    record { put = then a t.put; short = omega (arith, a.ends, t.short) }
