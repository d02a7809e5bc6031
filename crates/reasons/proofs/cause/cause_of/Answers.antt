use Rattle.std.proofs.Common.{ap, sym, ◌∙◌}
use Rattle.std.specs.Option.{option_copied}
use Rattle.reasons.proofs.Causes.{last_one, goes_on_lem}
use Rattle.reasons.proofs.cause.cause_of.Goals as goal

pub returns-in-Some : goal.returns-in-Some
returns-in-Some c = goes_on_lem _ _ _ _ _ _ c.args.more.now (sym c.first.ensures.value ∙ ap option_copied c.in-Some.is) c.cause_by.ensures

pub returns-in-None : goal.returns-in-None
returns-in-None c = last_one _ _ _ _ _ _ c.args.more.now (sym c.first.ensures.value ∙ ap option_copied c.in-None.is)
