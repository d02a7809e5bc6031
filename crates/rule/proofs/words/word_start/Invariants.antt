-- The loop's invariant: what is left, trimmed, is what there was, trimmed.
use mathlib.Core.Path.{◌≡◌}
use lib.ListN.{drop}
use Rattle.rule.specs.Words.{trimmed}
use Rattle.rule.proofs.words.word_start.Given as goal

abbrev pub invariant-loop-i : goal.invariant-loop-i
invariant-loop-i l = trimmed (drop l.i l.line) ≡ trimmed (drop l.at l.line)
