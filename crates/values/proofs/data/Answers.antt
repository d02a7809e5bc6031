use mathlib.Core.Path.{◌∙◌}
use borrow.Author.Rules.{rules}
use Rattle.field.specs.Cursor.{read_as}
use Rattle.field.proofs.Cursors.{got, not_got}
use Rattle.values.proofs.Exits.{exit}
use Rattle.values.proofs.Values.{no_descriptor, with_descriptor}
use Rattle.values.proofs.data.Goals as goal

pub returns-in_err-descriptor : goal.returns-in_err-descriptor
unfolding read_as
returns-in_err-descriptor c =
    exit _ c.from_residual.ensures.1 c.in_err-descriptor.ensures.ok_part c.in_err-descriptor.ensures.value
    ∙ no_descriptor _ _ c.requires (not_got _ _ _ c.value_at.ensures c.in_err-descriptor.ensures.ok_part)

pub returns : goal.returns
unfolding read_as
returns c =
    c.described_by.ensures ∙ with_descriptor _ _ c.requires _ _ (got _ _ _ c.value_at.ensures _ _ c.in_ok-descriptor.ensures.ok_part) (search rules)
