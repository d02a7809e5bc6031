-- The third number goes to the end.
use Rattle.std.proofs.Common.{arith, rules, sym, ◌∙◌}
use Rattle.std.proofs.lemmas.Grind.{common_steps}
use Rattle.named.specs.Parts.{cut}
use Rattle.named.specs.Values.{expected}
use Rattle.named.proofs.Forms.{no_third, three_there, all_good}
use Rattle.named.proofs.levels.three_in.Goals as goal

pub returns-then-value-second : goal.returns-then-value-second
returns-then-value-second c = sym (no_third c.word_at-first.ensures c.word_at-second.ensures c.if-value-second.true)

pub returns-in_err-picl : goal.returns-in_err-picl
unfolding cut expected
returns-in_err-picl c = let e = three_there c.word_at-first.ensures c.word_at-second.ensures in grind (arith, common_steps)

pub returns-in_err-user : goal.returns-in_err-user
unfolding cut expected
returns-in_err-user c = let e = three_there c.word_at-first.ensures c.word_at-second.ensures in grind (arith, common_steps)

pub returns-in_err-trace : goal.returns-in_err-trace
unfolding cut expected
returns-in_err-trace c = let e = three_there c.word_at-first.ensures c.word_at-second.ensures in grind (arith, common_steps)

pub returns : goal.returns
unfolding cut
returns c =
    all_good (sym c.read_number.ensures ∙ c.in_ok-picl.was) (sym c.read_number-2.ensures ∙ c.in_ok-user.was) (sym c.read_number-3.ensures ∙ c.in_ok-trace.was)
    (search rules) (search rules) (search rules) ∙ sym (three_there c.word_at-first.ensures c.word_at-second.ensures)
