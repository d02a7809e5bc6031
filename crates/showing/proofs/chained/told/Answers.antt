use borrow.Author.Rules.{rules}
use Rattle.showing.proofs.Telling.{refusal_told, filling_told}
use Rattle.showing.proofs.chained.told.Goals as goal

pub returns-then-filled-ne0 : goal.returns-then-filled-ne0
returns-then-filled-ne0 c = let s = c.args in
    refusal_told _ _ _ s.times.now _ s.filled (search rules) c.answer_of.ensures c.say_into.ensures

pub returns : goal.returns
returns c = let s = c.args in
    filling_told _ _ _ s.times.now _ s.filled (search rules) c.put_chain.ensures
