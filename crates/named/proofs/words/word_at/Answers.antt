-- where the word ends is found by its separator.
use Rattle.named.proofs.Cuts.{word_here, word_past}
use native.Mathlib.Omega.{arith}
use Rattle.named.proofs.words.word_at.Goals as goal

pub returns-then-end-at : goal.returns-then-end-at
returns-then-end-at c = word_past _ _ _ c.if-end-at.true

pub returns : goal.returns
returns c = word_here _ _ _ _ c.find-to.ensures.place (c.find-to.ensures.within (omega arith))
