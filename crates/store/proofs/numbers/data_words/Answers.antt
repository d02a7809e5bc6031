-- each arm names its data.
use borrow.Author.Rules.{rules}
use Rattle.store.proofs.Made.{word_of, words_three, words_others}
use Rattle.store.proofs.numbers.data_words.Goals as goal

pub returns-in-Three : goal.returns-in-Three
returns-in-Three c = let c₂ = c in
    words_three c₂.in-Three.is (word_of c₂.code_word-first.ensures (search rules)) (word_of c.code_word-second.ensures (search rules))
    (word_of c.code_word-third.ensures (search rules))

pub returns-in-Others : goal.returns-in-Others
returns-in-Others c = words_others c.in-Others.is
