use mathlib.Core.Path.{sym, ◌∙◌}
use Rattle.engine.proofs.Lengths.{fits}
use Rattle.engine.proofs.run_rounds.Goals as goal

pub rounds-requires : goal.rounds-requires
rounds-requires c = fits _ _ _ _ _ _ (sym c.fit.ensures ∙ c.if-not-fit.false)
