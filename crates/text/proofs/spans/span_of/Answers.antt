use Rattle.text.proofs.Rows.{every_span, one_span, past_span}
use Rattle.text.proofs.spans.span_of.Goals as goal

pub returns-in-Every : goal.returns-in-Every
returns-in-Every c = every_span c.in-Every.is

pub returns-in-One : goal.returns-in-One
returns-in-One c = one_span _ c.in-One.is c.if-processor-lt64.true

pub returns-in-One-2 : goal.returns-in-One-2
returns-in-One-2 c = past_span _ c.in-One.is c.if-processor-lt64.false
