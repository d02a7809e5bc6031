use Rattle.std.proofs.Common.{arith, rules, sym, ◌∙◌}
use Rattle.std.proofs.lemmas.Grind.{common_steps}
use Rattle.rule.specs.Rule.{natural}
use Rattle.rule.proofs.Threes.{good_number}
use Rattle.rule.proofs.whom.number.Goals as goal

pub returns-in_err-z : goal.returns-in_err-z
unfolding natural
returns-in_err-z c = grind (arith, common_steps)

pub returns : goal.returns
returns c = c.up_to.ensures ∙ good_number _ (search rules) (sym c.read_whole.ensures ∙ c.in_ok-z.was)
