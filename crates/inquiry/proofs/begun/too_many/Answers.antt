use mathlib.Core.Path.{refl}
use Rattle.inquiry.specs.Arguments.{too_many}
use Rattle.inquiry.proofs.begun.too_many.Goals as goal

pub returns-in-Messages : goal.returns-in-Messages
unfolding too_many
returns-in-Messages c = rw c.in-Messages.is refl

pub returns-in-Reasons : goal.returns-in-Reasons
unfolding too_many
returns-in-Reasons c = rw c.in-Reasons.is refl
