-- A minus is one store, and no sign is none.
use Rattle.forms.specs.Sizes.{sign_shown}
use Rattle.shown.proofs.write.put_sign.Goals as goal

pub returns-then-minus : goal.returns-then-minus
unfolding sign_shown
returns-then-minus c = rw c.if-minus.true

pub returns-else-minus : goal.returns-else-minus
unfolding sign_shown
returns-else-minus c = rw c.if-minus.false
