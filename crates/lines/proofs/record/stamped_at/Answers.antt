use mathlib.Core.Path.{◌≡◌}
use mir.Syntax.{w64}
use mir.Val.{to_z, of_z}
use borrow.Author.Rules.{rules}
use Rattle.lines.proofs.Records.{nothing_there, something_there}
use Rattle.lines.proofs.record.stamped_at.Goals as goal

pub returns-then-times-i : goal.returns-then-times-i
returns-then-times-i c = nothing_there _ _ _ c.if-times-i.true

pub returns : goal.returns
returns c =
    let original : to_z w64 (of_z w64 c.time_at-original.result) ≡ c.time_at-original.result = search rules in
    something_there c.args.store.now c.args.times.now c.args.i c.if-times-i.false c.line_at-line.ensures c.processor_at-processor.ensures
    c.time_at-original.ensures original (search rules)
