-- the first places of the slices fit the records that were read.
use mathlib.Core.Path.{refl, ap, ◌∙◌}
use Rattle.std.specs.Prelude.{Err}
use Rattle.std.proofs.lemmas.Result.{err_from_is_err_and}
use Rattle.reach.specs.Lines.{as_reached}
use Rattle.reach.proofs.Settling.{settled}
use Rattle.reach.proofs.lines.settle.Goals as goal

pub returns-in_err-matched : goal.returns-in_err-matched
unfolding as_reached
returns-in_err-matched c = let p = err_from_is_err_and c.from_residual.result c.from_residual.ensures.1 in
    settled _ _ _ c.args.listed c.args.passed c.requires.sized c.requires.listed_in_bounds.0 c.requires.listed_in_bounds.1 _ _ _ c.solve.ensures
    c.solve.auto.sends c.solve.auto.times c.requires.keepable _ _ _ (rw c.in_err-matched.was (p.1 ∙ ap Err p.2))

pub returns : goal.returns
unfolding as_reached
returns c = settled _ _ _ c.args.listed c.args.passed c.requires.sized c.requires.listed_in_bounds.0 c.requires.listed_in_bounds.1 _ _ _ c.solve.ensures
    c.solve.auto.sends c.solve.auto.times c.requires.keepable _ _ _ (rw c.in_ok-matched.was refl)
