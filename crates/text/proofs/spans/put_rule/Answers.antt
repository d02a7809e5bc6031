use Rattle.text.proofs.Rows.{rule_set}
use Rattle.text.proofs.spans.put_rule.Goals as goal

pub returns : goal.returns
returns c = rule_set c.span_of-senders.ensures c.span_of-receivers.ensures c.fill_rows.ensures
