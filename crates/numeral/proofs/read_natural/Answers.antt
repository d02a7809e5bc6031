use mathlib.Core.Path.{◌∙◌}
use borrow.Author.Rules.{rules}
use mir.Syntax.{w64}
use mir.Val.{SFits}
use mir.Facts.{to_z-of_z}
use Rattle.numeral.proofs.Naturals.{no_number, a_number}
use Rattle.numeral.proofs.read_natural.Goals as goal

pub returns-in_err-z : goal.returns-in_err-z
returns-in_err-z c = c.from_residual.ensures ∙ no_number _ c.read_number.ensures c.in_err-z.was

pub returns : goal.returns
returns c =
    let fits : SFits w64 c.in_ok-z.z = search rules in
    a_number _ c.read_number.ensures c.in_ok-z.was (to_z-of_z fits) c.size.ensures
