-- The loop's invariant: what was passed and the bytes still to pass are as many as the word has.
use Prim.Native.Nat.{◌+◌}
use mathlib.Core.Path.{◌≡◌}
use lib.ListN.{drop}
use Rattle.rule.proofs.Cuts.{word_length}
use Rattle.rule.proofs.words.word_end.Given as goal

abbrev pub invariant-loop-i : goal.invariant-loop-i
invariant-loop-i l = l.i + word_length (drop l.i l.line) ≡ l.at + word_length (drop l.at l.line)
