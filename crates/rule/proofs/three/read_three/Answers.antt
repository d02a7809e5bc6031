use Rattle.std.proofs.Common.{arith}
use Rattle.std.proofs.lemmas.Grind.{common_steps}
use Rattle.rule.specs.Rule.{rule_of}
use Rattle.rule.proofs.Threes.{three_read}
use Rattle.rule.proofs.three.read_three.Goals as goal

pub returns-in_err-sender : goal.returns-in_err-sender
unfolding rule_of
returns-in_err-sender c = let e = three_read c.named_at-first.ensures c.named_at-second.ensures in grind (arith, common_steps)

pub returns-in_err-receiver : goal.returns-in_err-receiver
unfolding rule_of
returns-in_err-receiver c = let e = three_read c.named_at-first.ensures c.named_at-second.ensures in grind (arith, common_steps)

pub returns-in_err-latency : goal.returns-in_err-latency
unfolding rule_of
returns-in_err-latency c = let e = three_read c.named_at-first.ensures c.named_at-second.ensures in grind (arith, common_steps)

pub returns : goal.returns
unfolding rule_of
returns c = let e = three_read c.named_at-first.ensures c.named_at-second.ensures in grind (arith, common_steps)
