use mathlib.Core.Path.{sym, ap, ◌∙◌}
use mir.Facts.{to_z-of_z}
use Rattle.signed.specs.Naturals.{size_of}
use Rattle.signed.proofs.Sizes.{outside, above, upto}
use Rattle.signed.proofs.up_to.Goals as goal

pub returns-in_err-n : goal.returns-in_err-n
returns-in_err-n c = c.from_residual.ensures ∙ outside _ _ (sym (c.size.ensures ∙ ap size_of (to_z-of_z c.ranges.z)) ∙ c.in_err-n.was)

pub returns-then-most-n : goal.returns-then-most-n
returns-then-most-n c = above _ _ _ (sym (c.size.ensures ∙ ap size_of (to_z-of_z c.ranges.z)) ∙ c.in_ok-n.was) c.if-most-n.true

pub returns : goal.returns
returns c = upto _ _ _ (sym (c.size.ensures ∙ ap size_of (to_z-of_z c.ranges.z)) ∙ c.in_ok-n.was) c.if-most-n.false
