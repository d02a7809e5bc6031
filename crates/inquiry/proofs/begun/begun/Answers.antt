use Rattle.std.specs.Prelude.{Err}
use mathlib.Core.Path.{ap, ◌∙◌}
use Rattle.inquiry.proofs.Arguments.{refuses, says_many, says_unnamed, one_more, judges}
use Rattle.inquiry.proofs.begun.begun.Goals as goal

pub returns-then-too_many : goal.returns-then-too_many
returns-then-too_many c =
    one_more _ _ _ _ c.without_share-but_share.ensures c.planned.ensures c.in-Ok.is
    c.too_many.ensures c.if-too_many.true

pub returns-in-Err-BadChoice : goal.returns-in-Err-BadChoice
returns-in-Err-BadChoice c =
    refuses _ _ _ _ c.without_share-but_share.ensures c.planned.ensures (c.in-Err-BadChoice.is ∙ ap Err c.in-Err-BadChoice.field-0-is) c.refused_nowhere.ensures

pub returns-in-Err-TooMany : goal.returns-in-Err-TooMany
returns-in-Err-TooMany c =
    says_many _ _ _ _ c.without_share-but_share.ensures c.planned.ensures (c.in-Err-TooMany.is ∙ ap Err c.in-Err-TooMany.field-0-is)

pub returns-in-Err-Unnamed : goal.returns-in-Err-Unnamed
returns-in-Err-Unnamed c =
    says_unnamed _ _ _ _ c.without_share-but_share.ensures c.planned.ensures (c.in-Err-Unnamed.is ∙ ap Err c.in-Err-Unnamed.field-0-is)

pub returns-else-too_many : goal.returns-else-too_many
returns-else-too_many c =
    judges _ _ _ _ c.without_share-but_share.ensures c.planned.ensures c.in-Ok.is
    c.too_many.ensures c.if-too_many.false c.share_in-kept.ensures c.choice_and_share.ensures
