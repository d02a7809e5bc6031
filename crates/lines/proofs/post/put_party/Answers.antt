use borrow.Author.Rules.{rules}
use native.Mathlib.Omega.{arith}
use mathlib.Core.Path.{◌≡◌}
use mir.Syntax.{w64}
use mir.Val.{to_z, of_z}
use Rattle.paper.specs.Text.{bytes_of}
use Rattle.lines.specs.Lines.{party_shown}
use Rattle.lines.proofs.Pieces.{behind}
use Rattle.lines.proofs.post.put_party.Goals as goal

pub returns : goal.returns
unfolding party_shown bytes_of
returns c = let s = c.args.stamped in
    let time : to_z w64 (of_z w64 s.corrected) ≡ s.corrected = search rules in
    behind _ (omega arith) c.put_record-a.ensures (rw time at c.put_timed.ensures)
