use Rattle.std.proofs.Common.{arith}
use Rattle.std.proofs.lemmas.Grind.{common_steps}
use Rattle.rule.specs.Rule.{on_three}
use Rattle.rule.proofs.Threes.{no_words, some_words}
use Rattle.rule.proofs.read_words.Goals as goal

pub returns-then-start-line : goal.returns-then-start-line
returns-then-start-line c = no_words _ _ c.word_start-start.ensures.is c.if-start-line.true

pub returns-in_err-rule : goal.returns-in_err-rule
unfolding on_three
returns-in_err-rule c =
    let s = c.word_start-start.ensures in
    let e = some_words _ _ s.is c.if-start-line.false s.within in grind (arith, common_steps)

pub returns : goal.returns
unfolding on_three
returns c =
    let s = c.word_start-start.ensures in
    let e = some_words _ _ s.is c.if-start-line.false s.within in grind (arith, common_steps)
