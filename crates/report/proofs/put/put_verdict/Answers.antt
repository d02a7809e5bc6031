use native.Mathlib.Omega.{arith}
use mathlib.Core.Path.{◌≡◌}
use borrow.Author.Tests.{ne_eqb}
use Rattle.paper.specs.Text.{bytes_of}
use Rattle.report.specs.Report.{verdict_shown}
use Rattle.report.proofs.put.put_verdict.Goals as goal

pub returns-in-1 : goal.returns-in-1
unfolding verdict_shown bytes_of
returns-in-1 c = let p = c.put_word.ensures in rw c.in-1.is (record { put = p; short = omega (arith, p.ends) })

pub returns-in-2 : goal.returns-in-2
unfolding verdict_shown bytes_of
returns-in-2 c = let p = c.put_word-in-2.ensures in rw c.in-2.is (record { put = p; short = omega (arith, p.ends) })

pub returns-in_default : goal.returns-in_default
unfolding verdict_shown bytes_of
returns-in_default c = let p = c.put_word-in_default.ensures in
    let one : c.args.verdict ≡ 1 → ⊥ = omega arith in
    let two : c.args.verdict ≡ 2 → ⊥ = omega arith in
    rw (ne_eqb _ 1 one, ne_eqb _ 2 two) (record { put = p; short = omega (arith, p.ends) })
