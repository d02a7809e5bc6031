-- A whole number, held to 0 to 999.
use mathlib.Core.Path.{sym, ◌∙◌}
use Rattle.paper.specs.Forms.{whole_of}
use Rattle.quick.specs.Lines.{CountAt}
use Rattle.quick.proofs.Moves.{whole_clean, value_told, value_of}
use Rattle.quick.proofs.Opens.{count_here}
use borrow.Author.Rules.{rules}
use Rattle.quick.proofs.head.count.Goals as goal

pub returns-in_err-number : goal.returns-in_err-number
unfolding CountAt
returns-in_err-number c = rw c.from_residual.ensures tt

pub returns-in_err-n : goal.returns-in_err-n
unfolding CountAt
returns-in_err-n c = rw c.from_residual-in_err-n.ensures tt

pub returns : goal.returns
unfolding CountAt
returns c = let k = value_told whole_of whole_clean _ _ _ _ _ _ c.stop.ensures c.whole.ensures in
    count_here _ _ _ _ _ (search rules) (sym c.up_to.ensures ∙ c.in_ok-n.was) (value_of whole_of _ _ _ _ k _ _ c.in_ok-number.was)
