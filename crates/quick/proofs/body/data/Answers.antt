-- A descriptor, and the data behind it.
use Rattle.paper.specs.Forms.{whole_of}
use Rattle.field.specs.Cursor.{read_as}
use Rattle.quick.specs.Lines.{DataAt}
use Rattle.quick.proofs.Moves.{value_of}
use Rattle.quick.proofs.Takes.{behind_descriptor}
use borrow.Author.Rules.{rules}
use Rattle.quick.proofs.body.data.Goals as goal

pub returns-in_err-descriptor : goal.returns-in_err-descriptor
unfolding DataAt
returns-in_err-descriptor c = rw c.from_residual.ensures tt

pub returns : goal.returns
unfolding read_as
returns c = behind_descriptor _ _ _ _ c.requires (search rules) (value_of whole_of _ _ _ _ c.value.ensures _ _ c.in_ok-descriptor.was) _ c.described.ensures
