use borrow.Author.Rules.{rules}
use native.Mathlib.Omega.{arith}
use mathlib.Core.Path.{◌≡◌}
use mir.Syntax.{w64}
use mir.Val.{to_z, of_z}
use Rattle.paper.specs.Text.{bytes_of}
use Rattle.lines.specs.Lines.{times_shown}
use Rattle.lines.proofs.Pieces.{behind}
use Rattle.lines.proofs.step.put_times.Goals as goal

pub returns : goal.returns
unfolding times_shown bytes_of
returns c = let s = c.args.stamped in
    let original : to_z w64 (of_z w64 s.original) ≡ s.original = search rules in
    let corrected : to_z w64 (of_z w64 s.corrected) ≡ s.corrected = search rules in
    behind _ (omega arith) (rw original at c.put_timed-a.ensures) (rw corrected at c.put_timed.ensures)
