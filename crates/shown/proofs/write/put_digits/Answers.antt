use mathlib.Core.Path.{sym, ◌∙◌}
use Rattle.shown.proofs.Stores.{digit_put, none_put}
use Rattle.shown.proofs.write.put_digits.Goals as goal

pub loop-i-preserved : goal.loop-i-preserved
loop-i-preserved c = let l = c.loop-i in l.invariant ∙ digit_put l.room _ l.i l.rest c.loop-i-test.true

pub returns : goal.returns
returns c = let l = c.loop-i in sym (l.invariant ∙ none_put l.room _ l.i l.rest c.loop-i-test.false)
