use Rattle.std.specs.Prelude.{Err}
use mathlib.Core.Path.{ap, ◌∙◌}
use Rattle.gather.proofs.Program.{refuses, says_many, says_unnamed, merges}
use Rattle.gather.proofs.performed.Goals as goal

pub returns-in-Err-BadChoice : goal.returns-in-Err-BadChoice
returns-in-Err-BadChoice g c = refuses _ _ c.planned.ensures (c.in-Err-BadChoice.is ∙ ap Err c.in-Err-BadChoice.field-0-is) c.bad_choice.ensures

pub returns-in-Err-TooMany : goal.returns-in-Err-TooMany
returns-in-Err-TooMany g c = says_many _ _ c.planned.ensures (c.in-Err-TooMany.is ∙ ap Err c.in-Err-TooMany.field-0-is)

pub returns-in-Err-Unnamed : goal.returns-in-Err-Unnamed
returns-in-Err-Unnamed g c = says_unnamed _ _ c.planned.ensures (c.in-Err-Unnamed.is ∙ ap Err c.in-Err-Unnamed.field-0-is)

pub returns-in-Ok : goal.returns-in-Ok
returns-in-Ok g c = merges _ _ c.planned.ensures c.in-Ok.is c.merge_files.ensures
