-- A quoted descriptor, and the pairs behind it.
use mir.Facts.{to_z-of_z}
use Rattle.field.specs.Cursor.{read_as}
use Rattle.quick.specs.Lines.{DataAt}
use Rattle.quick.proofs.Moves.{value_of}
use Rattle.quick.proofs.Paired.{behind_quote}
use Rattle.quick.proofs.pairs.described.Goals as goal

pub returns-in_err-next : goal.returns-in_err-next
unfolding DataAt
returns-in_err-next c = rw c.from_residual.ensures tt

pub returns : goal.returns
returns c = behind_quote _ _ _ _ c.requires (to_z-of_z c.ranges.kind) _ _ c.quoted_form.ensures c.told_form.ensures
    (value_of (read_as _) _ _ _ _ c.value.ensures _ _ c.in_ok-next.was) _ c.pairs.ensures
