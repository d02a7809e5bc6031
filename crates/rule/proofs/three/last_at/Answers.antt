use Rattle.std.proofs.Common.{arith}
use Rattle.std.proofs.lemmas.Grind.{common_steps}
use Rattle.rule.proofs.Threes.{more_behind, none_behind, number_low}
use Rattle.rule.proofs.three.last_at.Goals as goal

pub returns-then-word_start-line : goal.returns-then-word_start-line
returns-then-word_start-line c = more_behind _ _ _ _ c.word_end-end.ensures c.word_start.ensures (omega (arith, c.if-word_start-line.true))

pub overflow_cast-result : goal.overflow_cast-result
overflow_cast-result c = omega (arith, number_low 1000000 _ _ c.number.ensures c.in_ok-latency.was)

pub returns-in_err-latency : goal.returns-in_err-latency
returns-in_err-latency c =
    let e = none_behind _ _ _ _ c.word_end-end.ensures c.word_start.ensures (omega (arith, c.if-word_start-line.false)) c.number.ensures in grind (arith, common_steps)

pub returns : goal.returns
returns c =
    let e = none_behind _ _ _ _ c.word_end-end.ensures c.word_start.ensures (omega (arith, c.if-word_start-line.false)) c.number.ensures in grind (arith, common_steps)
