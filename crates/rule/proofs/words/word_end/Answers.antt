use Rattle.std.proofs.Common.{arith}
use Rattle.rule.proofs.Cuts.{end_at_end, end_here, end_later}
use Rattle.rule.proofs.words.word_end.Goals as goal

pub returns-then-is_blank : goal.returns-then-is_blank
returns-then-is_blank c = let l = c.loop-i in end_here _ _ l.i l.invariant (omega arith) c.is_blank.ensures c.if-is_blank.true

pub loop-i-preserved : goal.loop-i-preserved
loop-i-preserved c = let l = c.loop-i in end_later _ _ l.i l.invariant (omega arith) c.is_blank.ensures c.if-is_blank.false

pub returns : goal.returns
returns c = let l = c.loop-i in end_at_end _ _ l.i l.invariant (omega arith) (omega arith)
