use mir.Facts.{to_z-of_z}
use native.Mathlib.Omega.{arith}
use Rattle.paper.specs.Text.{bytes_of}
use Rattle.lines.proofs.Pieces.{plain, negative, as_shown}
use Rattle.lines.proofs.put.put_whole.Goals as goal

pub returns-then-code-eq0 : goal.returns-then-code-eq0
returns-then-code-eq0 c = as_shown 21 (omega arith) (plain _ (to_z-of_z c.ranges.z) c.code-code.ensures c.if-code-eq0.true)
    c.put_number.ensures

pub returns : goal.returns
unfolding bytes_of
returns c = as_shown 21 (omega arith)
    (negative _ (to_z-of_z c.ranges.z) c.code-code.ensures c.if-code-eq0.false)
    c.put_named.ensures
