use mathlib.Core.Path.{◌∙◌}
use mir.Facts.{to_z-of_z}
use Rattle.field.proofs.Cursors.{got, not_got}
use Rattle.values.proofs.Exits.{exit}
use Rattle.values.proofs.Paired.{no_quote, quote}
use Rattle.values.proofs.pairs.read.Goals as goal

pub returns-in_err-next : goal.returns-in_err-next
returns-in_err-next c =
    exit _ c.from_residual.ensures.1 c.in_err-next.ensures.ok_part c.in_err-next.ensures.value
    ∙ no_quote (to_z-of_z c.ranges.kind) c.quoted_form.ensures _ _ c.requires (not_got _ _ _ c.value_at.ensures c.in_err-next.ensures.ok_part)

pub returns : goal.returns
returns c =
    c.pairs.ensures
    ∙ quote (to_z-of_z c.ranges.kind) c.quoted_form.ensures _ _ c.requires c.told_form.ensures _ _ (got _ _ _ c.value_at.ensures _ _ c.in_ok-next.ensures.ok_part)
