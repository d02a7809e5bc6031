-- Room for a datum, or doubt.
use Rattle.quick.specs.Lines.{ValueAt}
use Rattle.quick.proofs.Moves.{form_clean, value_told}
use Rattle.quick.proofs.body.value.Goals as goal

pub returns-then-n-lt18 : goal.returns-then-n-lt18
unfolding ValueAt
returns-then-n-lt18 c = tt

pub returns : goal.returns
returns c = value_told _ (form_clean _) _ _ _ _ _ _ c.stop.ensures c.in_form.ensures
