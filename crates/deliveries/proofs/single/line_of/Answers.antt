use borrow.Author.Rules.{rules}
use mathlib.Core.Path.{◌≡◌, ◌∙◌}
use mir.Syntax.{w64}
use mir.Val.{to_z, of_z}
use Rattle.deliveries.proofs.Lines.{line_told}
use Rattle.deliveries.proofs.single.line_of.Goals as goal

pub returns : goal.returns
returns c = let tag : to_z w64 (of_z w64 c.message_in-received.result.tag) ≡ c.message_in-received.result.tag = search rules in
    line_told c.args.store.now c.args.times.now c.args.send c.args.receive c.requires c.stamped_at-from.ensures c.stamped_at-to.ensures
    (c.message_in-sent.ensures ∙ rw c.role_at.ensures)
    (c.message_in-received.ensures ∙ rw c.role_at-2.ensures)
    tag
    c.message_line.ensures
