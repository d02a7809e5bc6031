-- The length says whether the number is in range.
use mathlib.Core.Path.{sym, ◌∙◌}
use Rattle.forms.proofs.Wholes.{whole_long, whole_short}
use Rattle.form.proofs.read.whole_size.Goals as goal

pub returns-then-s-gt9 : goal.returns-then-s-gt9
returns-then-s-gt9 c = sym (whole_long _ c.if-s-gt9.true)

pub returns : goal.returns
returns c = c.whole_part.ensures ∙ sym (whole_short _ c.if-s-gt9.false)
