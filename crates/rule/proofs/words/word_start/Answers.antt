use Rattle.std.proofs.Common.{arith}
use Rattle.rule.proofs.Cuts.{start_at_end, start_here, start_later}
use Rattle.std.proofs.lemmas.Bool.{not_from_false, not_from_true}
use Rattle.rule.proofs.words.word_start.Goals as goal

pub returns-then-not-is_blank : goal.returns-then-not-is_blank
returns-then-not-is_blank c = let l = c.loop-i in start_here _ _ l.i l.invariant (omega arith) c.is_blank.ensures (not_from_false _ c.if-not-is_blank.true)

pub loop-i-preserved : goal.loop-i-preserved
loop-i-preserved c = let l = c.loop-i in start_later _ _ l.i l.invariant (omega arith) c.is_blank.ensures (not_from_true _ c.if-not-is_blank.false)

pub returns : goal.returns
returns c = let l = c.loop-i in start_at_end _ _ l.i l.invariant (omega arith)
