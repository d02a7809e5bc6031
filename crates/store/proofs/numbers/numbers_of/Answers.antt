-- each number stands in its place.
use borrow.Author.Rules.{rules}
use Rattle.store.proofs.Made.{code_of_lem, word_of, numbers_are}
use Rattle.store.proofs.numbers.numbers_of.Goals as goal

pub returns : goal.returns
returns c = let c₆ = c in
    let a = c₆.args in
    numbers_are a.line a.start a.body (code_of_lem c₆.code-time.ensures (search rules))
    c.mixed-parts.ensures
    (word_of c.code_word-kind.ensures (search rules))
    (word_of c.code_word-event.ensures (search rules))
    c.data_words-data.ensures
